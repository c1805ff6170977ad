use Rattle.std.proofs.Common.{◌≡◌, ◌++◌, List}
use Rattle.plane_terms.specs.Lists.{Paired}
use Rattle.topology_terms.specs.Entry.{Entry}
use Rattle.validation_laws.specs.Parts.{IsNewEntry}
use Rattle.validation.proofs.judge.add_findings.Given as goal

abbrev pub invariant-loop-x : goal.invariant-loop-x
invariant-loop-x l = (es : List Entry) × (l.out.items ≡ l.initial.out.items ++ es) × Paired (IsNewEntry l.rule l.f.handle l.f) l.yielded es

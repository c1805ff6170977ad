use Rattle.std.proofs.Common.{◌≡◌, ◌++◌, map, take}
use Rattle.topology_terms.specs.Entry.{Entry}
use Rattle.project_check.proofs.subjects.add_run.Given as goal

abbrev pub invariant-loop-e : goal.invariant-loop-e
invariant-loop-e l = l.subjects.items ≡ l.initial.subjects.items ++ map (λ (e : Entry). e.subject) (take l.e-index l.entries)

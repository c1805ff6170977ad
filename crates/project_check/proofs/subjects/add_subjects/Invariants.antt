use Rattle.std.proofs.Common.{◌≡◌, ◌++◌, map}
use Rattle.topology_terms.specs.Entry.{Entry}
use Rattle.error_store.specs.Pairs.{entries_in}
use Rattle.project_check.proofs.subjects.add_subjects.Given as goal

abbrev pub invariant-loop-run : goal.invariant-loop-run
invariant-loop-run l = l.subjects.items ++ map (λ (e : Entry). e.subject) (entries_in l.run-iterator) ≡
    l.initial.subjects.items ++ map (λ (e : Entry). e.subject) l.errors

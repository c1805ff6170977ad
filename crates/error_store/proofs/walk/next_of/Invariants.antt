use Rattle.error_store.proofs.Walking.{IsPast, left_from}
use Rattle.error_store.proofs.walk.next_of.Given as goal

abbrev pub invariant-loop-pair : goal.invariant-loop-pair
invariant-loop-pair l = IsPast l.subjects l.runs l.initial.from l.from

abbrev pub decreases-loop-pair : goal.decreases-loop-pair
decreases-loop-pair l = left_from l.from l.runs.entries

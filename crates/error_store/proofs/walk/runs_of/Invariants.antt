use Rattle.std.specs.List.{flat_map}
use Rattle.error_store.proofs.Collected.{IsGathered}
use Rattle.error_store.proofs.Walking.{left_from}
use Rattle.error_store.proofs.walk.runs_of.Given as goal

abbrev pub invariant-loop-pair : goal.invariant-loop-pair
invariant-loop-pair l = IsGathered l.subjects l.runs l.from (flat_map (λ r. r.now) l.found.items)

abbrev pub decreases-loop-pair : goal.decreases-loop-pair
decreases-loop-pair l = left_from l.from l.runs.entries

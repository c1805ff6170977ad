use Rattle.std.proofs.Common.{[], ◌∷◌, List}
use Rattle.topology_terms.specs.Entry.{Entry}
use Rattle.error_store.specs.Frames.{IsShared}
use Rattle.error_store.proofs.Collected.{IsGathered}
use Rattle.error_store.proofs.Walking.{left_from}
use Rattle.error_store.proofs.rule_frames.is_shared.Given as goal

abbrev pub invariant-loop-pair : goal.invariant-loop-pair
invariant-loop-pair l = (es : List Entry) × IsGathered (l.frame.handle ∷ []) l.runs l.from es × ¬ (IsShared l.rule es l.frame)

abbrev pub decreases-loop-pair : goal.decreases-loop-pair
decreases-loop-pair l = left_from l.from l.runs.entries

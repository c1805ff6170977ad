use Rattle.std.proofs.Common.{take}
use Rattle.error_store.specs.Frames.{IsFrame}
use Rattle.error_store.proofs.rule_frames.has_frame.Given as goal

abbrev pub invariant-loop-e : goal.invariant-loop-e
invariant-loop-e l = ¬ (IsFrame (take l.e-index l.entries) l.frame)

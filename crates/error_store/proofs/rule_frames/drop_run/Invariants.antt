use Rattle.std.proofs.Common.{take}
use Rattle.error_store.specs.Frames.{IsFrame, IsShared, LosesThose}
use Rattle.error_store.specs.Pairs.{all_entries}
use Rattle.error_store.proofs.rule_frames.drop_run.Given as goal

abbrev pub invariant-loop-e : goal.invariant-loop-e
invariant-loop-e l = LosesThose (IsFrame (take l.e-index l.run)) (IsShared l.rule (all_entries l.runs)) l.fn.index l.index

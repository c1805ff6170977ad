use Rattle.std.proofs.Common.{take}
use Rattle.error_store.proofs.FrameSets.{HasThose}
use Rattle.error_store.proofs.frame_set.FrameSet.of.Given as goal

abbrev pub invariant-loop-frame : goal.invariant-loop-frame
invariant-loop-frame l = HasThose l.keys (take l.frame-index l.frames)

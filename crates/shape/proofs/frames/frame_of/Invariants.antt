use Rattle.std.proofs.Common.{take}
use Rattle.shape.specs.Frames.{IsRound}
use Rattle.shape.proofs.frames.frame_of.Given as goal

abbrev pub invariant-loop-segment : goal.invariant-loop-segment
invariant-loop-segment l = IsRound l.frame (take l.segment-index l.segments)

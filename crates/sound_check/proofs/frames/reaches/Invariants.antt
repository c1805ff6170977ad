use Rattle.std.proofs.Common.{take}
use Rattle.sound_check.specs.Frames.{Reaches}
use Rattle.sound_check.proofs.frames.reaches.Given as goal

abbrev pub invariant-loop-i : goal.invariant-loop-i
invariant-loop-i l = ¬ (Reaches l.fn.half (take l.i l.cells))

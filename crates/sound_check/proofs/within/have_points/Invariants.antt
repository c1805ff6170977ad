use Rattle.std.proofs.Common.{take}
use Rattle.plane_terms.specs.Cell.{HavePoints}
use Rattle.sound_check.proofs.within.have_points.Given as goal

abbrev pub invariant-loop-i : goal.invariant-loop-i
invariant-loop-i l = HavePoints (take l.i l.cells)

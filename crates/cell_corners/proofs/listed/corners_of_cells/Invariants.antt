use Rattle.std.proofs.Common.{take}
use Rattle.corner_terms.specs.CornerLists.{AreOfCells}
use Rattle.cell_corners.proofs.listed.corners_of_cells.Given as goal

abbrev pub invariant-loop-i : goal.invariant-loop-i
invariant-loop-i l = AreOfCells 1 (take l.i l.cells) l.found.items

use Rattle.std.proofs.Common.{sym, subst}
use Rattle.plane_terms.specs.Cell.{HasPoint}
use Rattle.convex_cell.proofs.borrowed.BorrowedCell.frame.Goals as goal

pub frame_of_any-requires-clause-some : goal.frame_of_any-requires-clause-some
frame_of_any-requires-clause-some c = subst HasPoint (sym c.halves.ensures) c.requires.some

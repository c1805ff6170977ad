use Rattle.std.proofs.Common.{[], ◌∷◌, sym, subst}
use Rattle.plane_terms.specs.Cell.{Cell, HasPoint, IsLeastFrame}
use Rattle.convex_cell.specs.Frame.{IsOnGrid}
use Rattle.convex_cell.proofs.Frames.{some_same, grid_same, least_same}
use Rattle.convex_cell.proofs.frame.frame_of_any.Goals as goal

pub frame_of-requires-clause-some : goal.frame_of-requires-clause-some
frame_of-requires-clause-some c = subst HasPoint (sym c.deref.ensures.value)
    (some_same c.in-Some.needed.items c.args.halves.now (rw c.in-Some.is at c.needed_if_room.ensures) c.requires.some)

pub frame_of-requires-clause-on_grid : goal.frame_of-requires-clause-on_grid
frame_of-requires-clause-on_grid c = subst IsOnGrid (sym c.deref.ensures.value)
    (grid_same c.in-Some.needed.items c.args.halves.now (rw c.in-Some.is at c.needed_if_room.ensures) c.requires.on_grid)

pub returns-in-Some : goal.returns-in-Some
returns-in-Some c = least_same c.frame_of.result c.in-Some.needed.items c.args.halves.now (rw c.in-Some.is at c.needed_if_room.ensures)
    (subst (λ (hs : Cell). IsLeastFrame c.frame_of.result (hs ∷ [])) c.deref.ensures.value c.frame_of.ensures)

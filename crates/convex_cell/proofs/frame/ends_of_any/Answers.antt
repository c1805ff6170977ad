use Rattle.std.proofs.Common.{sym, subst}
use Rattle.plane_terms.specs.Cell.{Cell, HasPoint}
use Rattle.convex_cell.specs.Frame.{IsOnGrid, IsEndsAlong}
use Rattle.convex_cell.proofs.Frames.{some_same, grid_same, ends_same}
use Rattle.convex_cell.proofs.frame.ends_of_any.Goals as goal

pub ends_along-requires-clause-some : goal.ends_along-requires-clause-some
ends_along-requires-clause-some c = subst HasPoint (sym c.deref.ensures.value)
    (some_same c.in-Some.needed.items c.args.halves.now (rw c.in-Some.is at c.needed_if_room.ensures) c.requires.some)

pub ends_along-requires-clause-on_grid : goal.ends_along-requires-clause-on_grid
ends_along-requires-clause-on_grid c = subst IsOnGrid (sym c.deref.ensures.value)
    (grid_same c.in-Some.needed.items c.args.halves.now (rw c.in-Some.is at c.needed_if_room.ensures) c.requires.on_grid)

pub returns-in-Some : goal.returns-in-Some
returns-in-Some c =
    let d = c.args.direction in
    ends_same d c.in-Some.needed.items c.args.halves.now c.ends_along.result (rw c.in-Some.is at c.needed_if_room.ensures)
    (subst (λ (hs : Cell). IsEndsAlong d hs c.ends_along.result) c.deref.ensures.value c.ends_along.ensures)

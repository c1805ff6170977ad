use Rattle.std.proofs.Common.{◌≡◌, ◌∙◌, sym, subst}
use Rattle.plane_terms.specs.Rectangle.{Rectangle, IsRectangle}
use Rattle.plane_terms.specs.Cell.{Cell, HasPoint}
use Rattle.convex_cell.specs.declared.direction.Direction.{Direction}
use Rattle.convex_cell.specs.declared.direction.Direction.TheVariants.{East, North}
use Rattle.convex_cell.specs.declared.frame.Ends.{Ends}
use Rattle.convex_cell.specs.Frame.{IsOnGrid, IsWidenedAlong, IsWidened}
use Rattle.convex_cell.proofs.Frames.{nothing_widened, widened_frame, widened_proper, frame_code}
use Rattle.convex_cell.proofs.borrowed.BorrowedCell.widen.Goals as goal

asked : (d : Direction) (c g : Cell) (e f r : Ends) → IsWidenedAlong d g f r → g ≡ c → f ≡ e → IsWidenedAlong d c e r
asked d c g e f r w i j = rw (i, j) at w

pub returns-then-lies_in : goal.returns-then-lies_in
returns-then-lies_in c = nothing_widened c.args.self.now c.args.frame.now
    (rw (c.halves-halves.ensures, c.x_ends.ensures.value, c.y_ends.ensures.value) at c.if-lies_in.ensures)

pub widened_along-x-requires-clause-some : goal.widened_along-x-requires-clause-some
widened_along-x-requires-clause-some c = subst HasPoint (sym c.halves-halves.ensures) c.requires.some

pub widened_along-x-requires-clause-on_grid : goal.widened_along-x-requires-clause-on_grid
widened_along-x-requires-clause-on_grid c = subst IsOnGrid (sym c.halves-halves.ensures) c.requires.on_grid

pub widened_along-y-requires-clause-some : goal.widened_along-y-requires-clause-some
widened_along-y-requires-clause-some c = subst HasPoint (sym c.halves-halves.ensures) c.requires.some

pub of_sides-requires : goal.of_sides-requires
of_sides-requires c =
    let x = c.widened_along-x in
    let y = c.widened_along-y in
    let own : Cell = c.args.self.now in
    let cell : Cell = c.halves-halves.result.now in
    let east = asked East own cell _ _ x.result x.ensures c.halves-halves.ensures c.x_ends-2.ensures.value in
    let north = asked North own cell _ _ y.result y.ensures c.halves-halves.ensures c.y_ends-2.ensures.value in
    subst IsRectangle (sym (frame_code x.result y.result x.ensures.from_fits x.ensures.to_fits y.ensures.from_fits y.ensures.to_fits))
    (widened_proper own c.args.frame.now x.result y.result c.corner_law.ensures east north)

pub returns : goal.returns
returns c =
    let x = c.widened_along-x in
    let y = c.widened_along-y in
    let own : Cell = c.args.self.now in
    let cell : Cell = c.halves-halves.result.now in
    let east = asked East own cell _ _ x.result x.ensures c.halves-halves.ensures c.x_ends-2.ensures.value in
    let north = asked North own cell _ _ y.result y.ensures c.halves-halves.ensures c.y_ends-2.ensures.value in
    let same = frame_code x.result y.result x.ensures.from_fits x.ensures.to_fits y.ensures.from_fits y.ensures.to_fits in
    subst (λ (r : Rectangle). IsWidened own c.args.frame.now r) (sym (c.of_sides.ensures ∙ same))
    (widened_frame own c.args.frame.now x.result y.result east north)

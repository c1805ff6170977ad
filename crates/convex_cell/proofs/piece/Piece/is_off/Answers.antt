use Rattle.std.proofs.Common.{sym, subst}
use Rattle.plane_terms.specs.Cell.{Cell, InCell}
use Rattle.convex_cell.proofs.Ranges.{on_true}
use Rattle.convex_cell.proofs.Steps.{never_in, in_bounds}
use Rattle.convex_cell.proofs.piece.Piece.is_off.Goals as goal

pub returns : goal.returns
returns c =
    let i = c.self.invariant.bounds in
    let round = c.bounds_round.ensures in
    let own : Cell = c.self.inside.halves.items in
    on_true c.are_apart.result _ _ (λ a p m h. never_in c.self.inside.bounds c.bounds_round.result a i.x_fits i.y_fits round.x_fits round.y_fits p
    (in_bounds c.self.inside.bounds own i p (subst (λ (hs : Cell). InCell hs p) (sym c.self.view_is) m)) (round.sound p h)) c.are_apart.ensures

use Rattle.std.proofs.Common.{sym, subst}
use Rattle.std.proofs.lemmas.Bool.{OnTrue_at}
use Rattle.plane_terms.specs.Cell.{Cell, InCell, HasPoint}
use Rattle.convex_cell.proofs.Pieces.{in_bounds_held}
use Rattle.convex_cell.proofs.Ranges.{on_true}
use Rattle.convex_cell.proofs.piece.Piece.is_within.Goals as goal

pub returns-clause-some : goal.returns-clause-some
returns-clause-some c = on_true c.hold_in.result _ _ (λ h. subst HasPoint c.self.view_is (OnTrue_at c.if-not-self.false c.self.invariant.some))
    c.hold_in.ensures

pub returns-clause-within : goal.returns-clause-within
returns-clause-within c =
    let own : Cell = c.self.inside.halves.items in
    on_true c.hold_in.result _ _ (λ h p m.
    ((in_bounds_held c.self.inside.bounds own c.args.other.now c.self.invariant.bounds h p).0
    (subst (λ (hs : Cell). InCell hs p) (sym c.self.view_is) m)).1) c.hold_in.ensures

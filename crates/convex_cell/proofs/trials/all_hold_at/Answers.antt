use Rattle.std.proofs.Common.{List, All, arith, refl, subst}
use Rattle.std.proofs.lemmas.List.{take_all}
use Rattle.plane_terms.specs.HalfPlane.{HalfPlane}
use Rattle.convex_cell.specs.Middle.{HoldsAt}
use Rattle.convex_cell.proofs.Loops.{all_more}
use Rattle.convex_cell.proofs.trials.all_hold_at.Goals as goal

pub loop-half-preserved : goal.loop-half-preserved
loop-half-preserved c = all_more (HoldsAt c.args.at) c.args.halves.now c.loop-half.half-index c.half-item.result c.loop-half-test.true
    c.half-item.is c.loop-half.invariant (c.if-not-holds_at.ensures.0 refl)

pub returns : goal.returns
returns c = subst (λ (hs : List HalfPlane). All (HoldsAt c.args.at) hs) (take_all _ _ (omega arith)) c.loop-half.invariant

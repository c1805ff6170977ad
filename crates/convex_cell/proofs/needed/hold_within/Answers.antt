use Rattle.std.proofs.Common.{List, All, subst, arith}
use Rattle.std.proofs.lemmas.List.{take_all}
use Rattle.plane_terms.specs.HalfPlane.{HalfPlane, Holds}
use Rattle.convex_cell.proofs.Loops.{all_more}
use Rattle.convex_cell.proofs.needed.hold_within.Goals as goal

pub loop-half-preserved : goal.loop-half-preserved
loop-half-preserved c = λ p i. all_more (λ h. Holds h p) c.args.halves.now c.loop-half.half-index c.half-item.result c.loop-half-test.true
    c.half-item.is (c.loop-half.invariant p i) (c.if-not-holds_within.ensures p i)

pub returns : goal.returns
returns c = λ p i. subst (λ (hs : List HalfPlane). All (λ h. Holds h p) hs) (take_all _ _ (omega arith)) (c.loop-half.invariant p i)

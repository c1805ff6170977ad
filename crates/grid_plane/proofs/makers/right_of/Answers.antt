use Rattle.std.proofs.Common.{◌-ℤ◌, ◌*ℤ◌, ◌<ℤ◌, ◌∙◌, ◌↔◌, pos, subst, sym}
use Rattle.plane_terms.specs.HalfPlane.{HalfPlane, Holds}
use Rattle.plane_terms.specs.Segment.{cross}
use Rattle.plane_terms.specs.declared.op.Op.TheVariants.{Over}
use Rattle.grid_plane.proofs.Numbers.{read_back, neg_back, more_fits, same_half, neg_turned}
use Rattle.cell_laws.proofs.HalfPlanes.{right_holds}
use Rattle.grid_plane.proofs.makers.right_of.Goals as goal

pub returns-clause-meaning : goal.returns-clause-meaning
returns-clause-meaning c = λ p.
    let s = c.args.s.now in
    let made = c.packed.ensures
    ∙ same_half Over (read_back c.rise.result (more_fits _ c.rise.ensures.fits)
    ∙ c.rise.ensures.value) (neg_back c.across.result _ (more_fits _ c.across.ensures.fits) c.across.ensures.value)
    (neg_back c.constant.result _ c.constant.ensures.fits c.constant.ensures.value
    ∙ neg_turned ((s.hi.y -ℤ s.lo.y) *ℤ s.lo.x) ((s.hi.x -ℤ s.lo.x) *ℤ s.lo.y)) in
    subst (λ (h : HalfPlane). Holds h p ↔ (cross s p <ℤ pos 0)) (sym made) (right_holds s p)

pub returns-clause-value : goal.returns-clause-value
returns-clause-value c =
    let s = c.args.s.now in
    c.packed.ensures
    ∙ same_half Over (read_back c.rise.result (more_fits _ c.rise.ensures.fits)
    ∙ c.rise.ensures.value) (neg_back c.across.result _ (more_fits _ c.across.ensures.fits) c.across.ensures.value)
    (neg_back c.constant.result _ c.constant.ensures.fits c.constant.ensures.value
    ∙ neg_turned ((s.hi.y -ℤ s.lo.y) *ℤ s.lo.x) ((s.hi.x -ℤ s.lo.x) *ℤ s.lo.y))

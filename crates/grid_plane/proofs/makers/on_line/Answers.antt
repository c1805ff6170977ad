use Rattle.std.proofs.Common.{◌≡◌, ◌∙◌, ◌↔◌, pos, subst, sym}
use Rattle.plane_terms.specs.HalfPlane.{HalfPlane, Holds}
use Rattle.plane_terms.specs.Segment.{cross}
use Rattle.plane_terms.specs.declared.op.Op.TheVariants.{Zero}
use Rattle.grid_plane.proofs.Numbers.{read_back, neg_back, more_fits, same_half}
use Rattle.cell_laws.proofs.HalfPlanes.{line_holds}
use Rattle.grid_plane.proofs.makers.on_line.Goals as goal

pub returns-clause-meaning : goal.returns-clause-meaning
returns-clause-meaning c = λ p.
    let s = c.args.s.now in
    let made = c.packed.ensures
    ∙ same_half Zero (neg_back c.rise.result _ (more_fits _ c.rise.ensures.fits) c.rise.ensures.value)
    (read_back c.across.result (more_fits _ c.across.ensures.fits)
    ∙ c.across.ensures.value) (read_back c.constant.result c.constant.ensures.fits ∙ c.constant.ensures.value) in
    subst (λ (h : HalfPlane). Holds h p ↔ (cross s p ≡ pos 0)) (sym made) (line_holds s p)

pub returns-clause-value : goal.returns-clause-value
returns-clause-value c =
    let s = c.args.s.now in
    c.packed.ensures
    ∙ same_half Zero (neg_back c.rise.result _ (more_fits _ c.rise.ensures.fits) c.rise.ensures.value)
    (read_back c.across.result (more_fits _ c.across.ensures.fits)
    ∙ c.across.ensures.value) (read_back c.constant.result c.constant.ensures.fits ∙ c.constant.ensures.value)

use Rattle.std.proofs.Common.{◌≡◌, ◌∙◌, true, sym, subst}
use Rattle.plane_terms.specs.Rectangle.{Rectangle, rects_meet}
use Rattle.plane_terms.specs.Segment.{box_of}
use Rattle.shape.proofs.Bad.{bad_boxes}
use Rattle.shape.proofs.pairs.are_bad.Goals as goal

pub returns-then-not-meets : goal.returns-then-not-meets
returns-then-not-meets c = (
  λ e. cc,
  λ b.
      let m = bad_boxes c.args.s.now c.args.t.now c.requires.proper c.env.ensures.valid.proper b in
      let n = subst (λ (r : Rectangle). rects_meet r (box_of c.args.t.now) ≡ true) (sym c.requires.round) m in
      let o = subst (λ (r : Rectangle). rects_meet c.args.env.now r ≡ true) (sym c.env.ensures.value) n in
      sym c.if-not-meets.true ∙ (c.meets.ensures.value ∙ o),
)

use Rattle.std.proofs.Common.{◌≡◌, ◌∙◌, ℕ, false, sym, subst}
use Rattle.plane_terms.specs.Rectangle.{Rectangle, rects_meet}
use Rattle.shape.specs.Pairs.{IsFirstFrom}
use Rattle.shape.proofs.FirstPairs.{none_framed, later_is}
use Rattle.shape.proofs.pairs.first_after.Goals as goal

pub returns-then-not-meets : goal.returns-then-not-meets
returns-then-not-meets c =
    none_framed c.args.segs.now c.args.i c.args.run.from c.args.run.to c.index-segs-i.result c.args.frame.now c.index-segs-i.is
    c.env.ensures.valid.proper c.requires.framed
    (subst (λ (r : Rectangle). rects_meet r c.args.frame.now ≡ false) c.env.ensures.value (sym c.meets.ensures.value
    ∙ c.if-not-meets.true))

pub returns : goal.returns
returns c =
    later_is c.args.segs.now c.args.i c.args.run.from c.args.run.to c.first_from.result
    (subst (λ (n : ℕ). IsFirstFrom c.args.segs.now c.args.i n c.args.run.to c.first_from.result) c.max.ensures c.first_from.ensures)

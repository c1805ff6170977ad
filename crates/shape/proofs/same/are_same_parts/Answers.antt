use Rattle.std.proofs.Common.{◌∙◌, sym, ap, arith, length, ◌<◌, Vec}
use Rattle.std.proofs.lemmas.Bool.{false≢true}
use Rattle.std.specs.Global.{Global}
use Rattle.shape.specs.Given.{Ring, rings_in}
use Rattle.shape.proofs.Changed.{same_more, same_at}
use Rattle.shape.proofs.same.are_same_parts.Goals as goal

pub returns-then-not-are_same_rings : goal.returns-then-not-are_same_rings
returns-then-not-are_same_rings c =
    let l : c.loop-i.i < length c.args.others.now = omega (arith, c.loop-i-test.true, c.if-parts-others.false) in (
      λ e. absurd (false≢true e),
      λ e. absurd
          (false≢true (sym c.if-not-are_same_rings.true
          ∙ c.are_same_rings.ensures.1 (ap rings_in c.deref.ensures.value
          ∙ same_at (λ (p : Vec Ring Global). rings_in p.items) c.loop-i.i c.args.parts.now c.args.others.now c.index-parts-i.result
          c.index-others-i.result c.loop-i-test.true l c.index-parts-i.is c.index-others-i.is e
          ∙ ap rings_in (sym c.deref-in-loop-i.ensures.value)))),
    )

pub loop-i-preserved : goal.loop-i-preserved
loop-i-preserved c =
    let l : c.loop-i.i < length c.args.others.now = omega (arith, c.loop-i-test.true, c.if-parts-others.false) in
    same_more (λ (p : Vec Ring Global). rings_in p.items) c.loop-i.i c.args.parts.now c.args.others.now c.index-parts-i.result
    c.index-others-i.result c.loop-i-test.true l c.index-parts-i.is c.index-others-i.is (ap rings_in (sym c.deref.ensures.value)
    ∙ c.are_same_rings.ensures.0 c.if-not-are_same_rings.false ∙ ap rings_in c.deref-in-loop-i.ensures.value) c.loop-i.invariant

use Rattle.std.proofs.Common.{◌∙◌, sym, arith, length, ◌<◌}
use Rattle.std.proofs.lemmas.Bool.{false≢true}
use Rattle.shape.specs.Given.{Ring}
use Rattle.shape.proofs.Changed.{same_more, same_at}
use Rattle.shape.proofs.same.are_same_rings.Goals as goal

pub returns-then-not-are_same_vertices : goal.returns-then-not-are_same_vertices
returns-then-not-are_same_vertices c =
    let l : c.loop-i.i < length c.args.others.now = omega (arith, c.loop-i-test.true, c.if-rings-others.false) in (
      λ e. absurd (false≢true e),
      λ e. absurd
          (false≢true (sym c.if-not-are_same_vertices.true
          ∙ c.are_same_vertices.ensures.1 (c.deref.ensures.value
          ∙ same_at (λ (r : Ring). r.items) c.loop-i.i c.args.rings.now c.args.others.now c.index-rings-i.result c.index-others-i.result
          c.loop-i-test.true l c.index-rings-i.is c.index-others-i.is e ∙ sym c.deref-in-loop-i.ensures.value))),
    )

pub loop-i-preserved : goal.loop-i-preserved
loop-i-preserved c =
    let l : c.loop-i.i < length c.args.others.now = omega (arith, c.loop-i-test.true, c.if-rings-others.false) in
    same_more (λ (r : Ring). r.items) c.loop-i.i c.args.rings.now c.args.others.now c.index-rings-i.result c.index-others-i.result
    c.loop-i-test.true l c.index-rings-i.is c.index-others-i.is (sym c.deref.ensures.value
    ∙ c.are_same_vertices.ensures.0 c.if-not-are_same_vertices.false ∙ c.deref-in-loop-i.ensures.value) c.loop-i.invariant

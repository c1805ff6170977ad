use Rattle.std.proofs.Common.{◌∙◌, ap, sym, arith}
use Rattle.plane_terms.specs.Shape.{ring_by}
use Rattle.plane_terms.specs.declared.kind.Kind.TheVariants as kind
use Rattle.shape.specs.Given.{Ring}
use Rattle.shape.proofs.Changed.{changed_more, changed_all}
use Rattle.shape.proofs.vertices.keep_parts.Goals as goal

pub loop-part-preserved : goal.loop-part-preserved
loop-part-preserved c =
    changed_more (λ (r : Ring). r.items) (ring_by kind.Line) c.loop-part.part-index c.loop-part.parts c.args.parts.now c.part-item.result
    c.keep.new.vertices c.loop-part.invariant (omega (arith, c.loop-part-test.true, c.loop-part.auto.parts)) c.part-item.is
    (c.keep.ensures ∙ ap (λ (r : Ring). ring_by kind.Line r.items) (sym c.part-item.is))

pub returns : goal.returns
returns c =
    changed_all (λ (r : Ring). r.items) (ring_by kind.Line) c.loop-part.part-index c.loop-part.parts c.args.parts.now c.loop-part.invariant
    (omega (arith, c.loop-part-test.false, c.loop-part.auto.parts))

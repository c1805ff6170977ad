use Rattle.std.proofs.Common.{◌∙◌, ap, sym, arith}
use Rattle.plane_terms.specs.Shape.{ring_by}
use Rattle.plane_terms.specs.declared.kind.Kind.TheVariants as kind
use Rattle.shape.specs.Given.{Ring}
use Rattle.shape.proofs.Changed.{changed_more, changed_all}
use Rattle.shape.proofs.vertices.close_rings.Goals as goal

pub loop-ring-preserved : goal.loop-ring-preserved
loop-ring-preserved c =
    changed_more (λ (r : Ring). r.items) (ring_by kind.Polygon) c.loop-ring.ring-index c.loop-ring.rings c.args.rings.now c.ring-item.result
    c.close.new.ring c.loop-ring.invariant (omega (arith, c.loop-ring-test.true, c.loop-ring.auto.rings)) c.ring-item.is
    (c.close.ensures ∙ ap (λ (r : Ring). ring_by kind.Polygon r.items) (sym c.ring-item.is))

pub returns : goal.returns
returns c =
    changed_all (λ (r : Ring). r.items) (ring_by kind.Polygon) c.loop-ring.ring-index c.loop-ring.rings c.args.rings.now
    c.loop-ring.invariant (omega (arith, c.loop-ring-test.false, c.loop-ring.auto.rings))

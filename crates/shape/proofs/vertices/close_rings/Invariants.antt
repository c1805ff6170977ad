use Rattle.plane_terms.specs.Shape.{ring_by}
use Rattle.plane_terms.specs.declared.kind.Kind.TheVariants as kind
use Rattle.shape.specs.Given.{Ring}
use Rattle.shape.proofs.Changed.{Changed}
use Rattle.shape.proofs.vertices.close_rings.Given as goal

abbrev pub invariant-loop-ring : goal.invariant-loop-ring
invariant-loop-ring l = Changed (λ (r : Ring). r.items) (ring_by kind.Polygon) l.ring-index l.rings l.initial.rings

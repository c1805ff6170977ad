use Rattle.plane_terms.specs.Shape.{ring_by}
use Rattle.plane_terms.specs.declared.kind.Kind.TheVariants as kind
use Rattle.shape.specs.Given.{Ring}
use Rattle.shape.proofs.Changed.{Changed}
use Rattle.shape.proofs.vertices.keep_parts.Given as goal

abbrev pub invariant-loop-part : goal.invariant-loop-part
invariant-loop-part l = Changed (λ (r : Ring). r.items) (ring_by kind.Line) l.part-index l.parts l.initial.parts

use Rattle.plane_terms.specs.Shape.{shape_of}
use Rattle.plane_terms.specs.declared.kind.Kind.TheVariants as kind
use Rattle.shape.specs.Given.{polygons_in}
use Rattle.wkt_text.proofs.parts.closed_polygon.Goals as goal

pub returns-in-Err : goal.returns-in-Err
returns-in-Err c = c.shape_fault.ensures (shape_of kind.Polygon (polygons_in c.args.parts.items)) c.in-Err.ensures.refused

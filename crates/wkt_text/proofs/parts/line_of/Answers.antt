use Rattle.plane_terms.specs.Shape.{shape_of}
use Rattle.plane_terms.specs.declared.kind.Kind.TheVariants as kind
use Rattle.shape.specs.Given.{lines_in}
use Rattle.wkt_text.proofs.parts.line_of.Goals as goal

pub returns-in-Err : goal.returns-in-Err
returns-in-Err c = c.shape_fault.ensures (shape_of kind.Line (lines_in c.args.parts.items)) c.in-Err.ensures.refused

use Rattle.std.proofs.Common.{List, subst}
use Rattle.plane_terms.specs.Point.{Place}
use Rattle.shape.specs.Given.{IsCountable}
use Rattle.wkt_text.specs.States.{geometry_of}
use Rattle.wkt_text.specs.declared.geometry.Geometry.{Geometry}
use Rattle.wkt_terms.specs.Shapes.{parts_in}
use Rattle.wkt_text.proofs.Polygons.{lines_given, lines_whole}
use Rattle.wkt_text.proofs.parts.shape_of.Goals as goal

pub line_of-requires : goal.line_of-requires
line_of-requires c =
    subst (λ (ps : List (List (List Place))). IsCountable ps) (lines_given c.in-Lines.lists.items)
    (subst (λ (g : Geometry). IsCountable (parts_in (geometry_of g))) c.in-Lines.is c.requires)

pub returns-in-Lines : goal.returns-in-Lines
returns-in-Lines c = rw c.in-Lines.is (lines_whole c.in-Lines.lists.items c.line_of.result c.line_of.ensures)

-- What the code keeps of a shape.
--
-- line_shape, polygon_shape     the shape of these parts
-- shape_in form       the shape that is kept
-- IsDrawn s segs env frames     s is a shape; segs are its segments, the lower end of each before its upper one; env is its envelope;
--                     the frames are round blocks of the segments
-- IsFormed form       what is kept beside the parts belongs to them
use Rattle.std.specs.Prelude.{◌≡◌, Vec, List}
use Rattle.std.specs.Global.{Global}
use Rattle.plane_terms.specs.Lists.{Every}
use Rattle.plane_terms.specs.Point.{IsInReach}
use Rattle.plane_terms.specs.Rectangle.{Rectangle}
use Rattle.plane_terms.specs.Segment.{Segment, IsSegment}
use Rattle.plane_terms.specs.Shape.{Shape, point_shape, segments_of, envelope_of, IsShape}
use Rattle.plane_terms.specs.declared.kind.Kind.TheVariants as kind
use Rattle.shape.specs.declared.form.Form.{Form}
use Rattle.shape.specs.declared.form.Form.TheVariants as form
use Rattle.shape.specs.Frames.{AreFrames}
use Rattle.shape.specs.Given.{Ring, lines_in, polygons_in}
use Rattle.shape.specs.Parts.{parts_in, frames_in}

abbrev pub line_shape : List Ring → Shape
line_shape parts = record { kind = kind.Line; parts = lines_in parts }

abbrev pub polygon_shape : List (Vec Ring Global) → Shape
polygon_shape parts = record { kind = kind.Polygon; parts = polygons_in parts }

abbrev pub shape_in : Form → Shape
shape_in (form.Point place) = point_shape place
shape_in (form.Line line) = line_shape (parts_in line.value.parts)
shape_in (form.Polygon polygon) = polygon_shape (parts_in polygon.value.parts)

pub record IsDrawn (s : Shape) (segs : List Segment) (env : Rectangle) (frames : List Rectangle) : Type 0 where
  pub valid : IsShape s
  pub segments : segs ≡ segments_of s
  pub proper : Every IsSegment segs
  pub envelope : env ≡ envelope_of s
  pub framed : AreFrames frames segs

abbrev pub IsFormed : Form → Type 0
IsFormed (form.Point place) = IsInReach place
IsFormed (form.Line line) = IsDrawn (line_shape (parts_in line.value.parts)) line.value.segs.items line.value.env (frames_in line.value.parts)
IsFormed (form.Polygon polygon) =
    IsDrawn (polygon_shape (parts_in polygon.value.parts)) polygon.value.segs.items polygon.value.env (frames_in polygon.value.parts)

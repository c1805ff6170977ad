-- The features of a side taken together.
--
-- of_side A F       those of the side, in the order of F
-- ends f            the ends of a line, in the order of its parts, with repeats
-- sides_all gs, ends_all gs     the segments, and the ends, of all these features, in their order
use Rattle.std.specs.Prelude.{List, filter, flat_map}
use Rattle.plane_terms.specs.Point.{Place}
use Rattle.plane_terms.specs.Segment.{Segment}
use Rattle.plane_terms.specs.Shape.{ends_of}
use Rattle.topology_terms.specs.Feature.{Feature, Side, is_on_side, sides}

abbrev pub of_side : Side → List Feature → List Feature
of_side A F = filter (is_on_side A) F

abbrev pub ends : Feature → List Place
ends f = ends_of f.shape

abbrev pub sides_all : List Feature → List Segment
sides_all gs = flat_map sides gs

abbrev pub ends_all : List Feature → List Place
ends_all gs = flat_map ends gs

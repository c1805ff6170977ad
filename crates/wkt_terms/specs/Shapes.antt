-- What a text says of a shape, and back.
--
-- is_closed ring         the ring's first and last places are the same
-- rings_in g             all rings, through all polygons; a point and lines have none
-- AreClosed g            each ring is closed
-- IsOpen ring            the ring is not closed
-- kind_in g, parts_in g  the kind and the parts that a geometry says
-- shape_in g             the shape that these parts make: equal neighbours are kept once, and the last place of a ring, which is its first
--                        again, goes
-- IsShapeText text s     the text spells a geometry whose rings are closed and whose shape this is, and it is valid
-- closed ring            the ring with its first place again at its end
-- of_lines parts         the geometry of a line: one part is a LINESTRING, more are a MULTILINESTRING
-- of_polygons parts      the geometry of a polygon: each ring is closed; one part is a POLYGON, more are a MULTIPOLYGON
-- geometry_in s          the geometry of a shape
-- shape_text s           its written form
use Rattle.std.specs.Prelude.{ℕ, ◌≡◌, Bool, true, false, List, [], ◌∷◌, ◌++◌, map, flat_map}
use Rattle.plane_terms.specs.Lists.{Every}
use Rattle.plane_terms.specs.Point.{Place, same_place}
use Rattle.plane_terms.specs.Shape.{Shape, IsShape, rings_of, shape_of, place_of, last_of}
use Rattle.plane_terms.specs.declared.kind.Kind.{Kind}
use Rattle.plane_terms.specs.declared.kind.Kind.TheVariants as kind
use Rattle.wkt_terms.specs.Grammar.{Geometry, APoint, ALine, Lines, APolygon, Polygons, IsWkt}
use Rattle.wkt_terms.specs.Written.{written}

-- ---- read

-- of no places (never) true
abbrev pub is_closed : List Place → Bool
is_closed [] = true
is_closed (p ∷ ps) = same_place p (last_of p ps)

abbrev pub rings_in : Geometry → List (List Place)
rings_in (APolygon rings) = rings
rings_in (Polygons parts) = flat_map (λ part. part) parts
rings_in other = []

abbrev pub AreClosed : Geometry → Type 0
AreClosed g = Every (λ ring. is_closed ring ≡ true) (rings_in g)

abbrev pub IsOpen : List Place → Type 0
IsOpen ring = is_closed ring ≡ false

abbrev pub kind_in : Geometry → Kind
kind_in (APoint p) = kind.Point
kind_in (ALine ps) = kind.Line
kind_in (Lines pss) = kind.Line
kind_in (APolygon rings) = kind.Polygon
kind_in (Polygons parts) = kind.Polygon

abbrev pub parts_in : Geometry → List (List (List Place))
parts_in (APoint p) = ((p ∷ []) ∷ []) ∷ []
parts_in (ALine ps) = (ps ∷ []) ∷ []
parts_in (Lines pss) = map (λ ps. ps ∷ []) pss
parts_in (APolygon rings) = rings ∷ []
parts_in (Polygons parts) = parts

abbrev pub shape_in : Geometry → Shape
shape_in g = shape_of (kind_in g) (parts_in g)

pub record IsShapeText (text : List ℕ) (s : Shape) : Type 0 where
  pub geometry : Geometry
  pub spelled : IsWkt text geometry
  pub closed : AreClosed geometry
  pub shape : s ≡ shape_in geometry
  pub valid : IsShape s

-- ---- written

abbrev pub closed : List Place → List Place
closed [] = []
closed (p ∷ ps) = p ∷ ps ++ p ∷ []

abbrev pub of_lines : List (List Place) → Geometry
of_lines (ps ∷ []) = ALine ps
of_lines pss = Lines pss

abbrev pub of_polygons : List (List (List Place)) → Geometry
of_polygons (rings ∷ []) = APolygon (map closed rings)
of_polygons parts = Polygons (map (λ part. map closed part) parts)

abbrev pub geometry_by : Kind → Shape → Geometry
geometry_by kind.Point s = APoint (place_of s)
geometry_by kind.Line s = of_lines (rings_of s)
geometry_by kind.Polygon s = of_polygons s.parts

abbrev pub geometry_in : Shape → Geometry
geometry_in s = geometry_by s.kind s

abbrev pub shape_text : Shape → List ℕ
shape_text s = written (geometry_in s)

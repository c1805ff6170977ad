-- The one written form of a geometry.
--
-- place_text q     X Y, in plain decimals, `-` before a negative one
-- list_text ps     the places in brackets, with `, ` between them
-- lists_text pss   the lists in brackets, with `, ` between them
-- written g        the word in upper case, one space, and then the lists
-- IsInGrid g       its places are within the reach
--
-- Source: own; OGC 06-103r4 leaves blanks and case free.
use Rattle.std.specs.Prelude.{ℕ, List, [], ◌∷◌, ◌++◌, map, codes}
use Rattle.std.specs.List.{AllByRecursion}
use Rattle.std.specs.Fmt.{signed_decimal}
use Rattle.plane_terms.specs.Point.{Place, IsInReach}
use Rattle.text_terms.specs.Wkt.{listed}
use Rattle.wkt_terms.specs.Grammar.{Geometry, APoint, ALine, Lines, APolygon, Polygons}

abbrev pub place_text : Place → List ℕ
place_text q = signed_decimal q.x ++ 32 ∷ signed_decimal q.y

abbrev pub bracketed : List ℕ → List ℕ
bracketed text = 40 ∷ text ++ 41 ∷ []

abbrev pub list_text : List Place → List ℕ
list_text ps = bracketed (listed (map place_text ps))

abbrev pub lists_text : List (List Place) → List ℕ
lists_text pss = bracketed (listed (map list_text pss))

abbrev pub written : Geometry → List ℕ
written (APoint q) = codes "POINT " ++ bracketed (place_text q)
written (ALine ps) = codes "LINESTRING " ++ list_text ps
written (Lines pss) = codes "MULTILINESTRING " ++ lists_text pss
written (APolygon rings) = codes "POLYGON " ++ lists_text rings
written (Polygons parts) = codes "MULTIPOLYGON " ++ bracketed (listed (map lists_text parts))

abbrev pub IsInGrid : Geometry → Type 0
IsInGrid (APoint q) = IsInReach q
IsInGrid (ALine ps) = AllByRecursion IsInReach ps
IsInGrid (Lines pss) = AllByRecursion (AllByRecursion IsInReach) pss
IsInGrid (APolygon rings) = AllByRecursion (AllByRecursion IsInReach) rings
IsInGrid (Polygons parts) = AllByRecursion (AllByRecursion (AllByRecursion IsInReach)) parts

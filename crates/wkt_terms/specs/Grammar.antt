-- The grammar of well-known text: how a geometry is spelled.
--
-- Geometry        what a text writes: a place, lines, or polygons of rings; each ring with its last position, as written
-- spelling g      its tokens:
--                     text     = POINT ( position )
--                              | LINESTRING list
--                              | MULTILINESTRING lists
--                              | POLYGON lists
--                              | MULTIPOLYGON ( lists , lists .. )
--                     lists    = ( list , list .. )
--                     list     = ( position , position .. )
--                     position = number number
-- IsFull g        no list of it is empty
-- IsWkt text g    the text spells this geometry, and nothing follows
--
-- Source: the well-known text of OGC 06-103r4, of which these five kinds are taken, without Z and M, and without EMPTY.
use Rattle.std.specs.Prelude.{ℕ, List, [], ◌∷◌, ◌++◌}
use Rattle.std.specs.List.{AllByRecursion}
use Rattle.plane_terms.specs.Point.{Place}
use Rattle.wkt_terms.specs.Numerals.{Whole}
use Rattle.wkt_terms.specs.Tokens.{Token, Open, Close, Comma, Named, Numeral, End, Point, LineString, MultiLineString, Polygon, MultiPolygon, StartsWith}

pub data Geometry : Type 0 where
  APoint : Place → Geometry
  ALine : List Place → Geometry
  Lines : List (List Place) → Geometry
  APolygon : List (List Place) → Geometry
  Polygons : List (List (List Place)) → Geometry

abbrev pub position : Place → List Token
position p = Numeral (Whole p.x) ∷ Numeral (Whole p.y) ∷ []

-- each behind a comma
abbrev pub commas : {A : Type 0} → (A → List Token) → List A → List Token
commas f [] = []
commas f (x ∷ xs) = Comma ∷ f x ++ commas f xs

-- with commas between them
abbrev pub items : {A : Type 0} → (A → List Token) → List A → List Token
items f [] = []
items f (x ∷ xs) = f x ++ commas f xs

abbrev pub list : List Place → List Token
list ps = Open ∷ items position ps ++ Close ∷ []

abbrev pub lists : List (List Place) → List Token
lists pss = Open ∷ items list pss ++ Close ∷ []

abbrev pub spelling : Geometry → List Token
spelling (APoint p) = Named Point ∷ Open ∷ position p ++ Close ∷ []
spelling (ALine ps) = Named LineString ∷ list ps
spelling (Lines pss) = Named MultiLineString ∷ lists pss
spelling (APolygon rings) = Named Polygon ∷ lists rings
spelling (Polygons parts) = Named MultiPolygon ∷ Open ∷ items lists parts ++ Close ∷ []

abbrev pub IsSome : {A : Type 0} → List A → Type 0
IsSome [] = ⊥
IsSome (x ∷ xs) = Unit {0}

abbrev pub AreSome : List (List Place) → Type 0
AreSome pss = IsSome pss × AllByRecursion IsSome pss

abbrev pub IsFull : Geometry → Type 0
IsFull (APoint p) = Unit {0}
IsFull (ALine ps) = IsSome ps
IsFull (Lines pss) = AreSome pss
IsFull (APolygon rings) = AreSome rings
IsFull (Polygons parts) = IsSome parts × AllByRecursion AreSome parts

abbrev pub IsWkt : List ℕ → Geometry → Type 0
IsWkt text g = IsFull g × StartsWith text (spelling g ++ End ∷ []) []

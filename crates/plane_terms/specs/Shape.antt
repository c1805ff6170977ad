-- Shapes of features.
--
-- Shape            a kind and its parts; a part is a list of rings, a ring a list of vertices
--                  point: one part of one ring of one place; line: a part is one ring, from its first to its last vertex;
--                  polygon: a ring goes back to its first vertex, which is not said again
-- point_shape q    the shape of a point
-- vertices_of s    all vertices, part by part
-- segments_of s    from each vertex to the next, in a polygon also from the last to the first; none of a point
-- ends_of s        of a line the first and the last vertex of each part, with repeats; none of the others
-- place_of s       of a point its place
-- envelope_of s    the least rectangle that holds the vertices
-- shape_of k parts    the shape that these parts make: equal neighbours are kept once, and in a ring last vertices equal to the first go
-- IsShape s        what a shape keeps: coordinates in reach, enough vertices and not over 2,000, no neighbours alike,
--                  and of a polygon: two segments never overlap, and where two meet an end of one of them is
--
-- Which rings stand in which part is for writing alone: orientation and nesting are free, since the inside is counted.
-- Source: Point, LineString, MultiLineString, Polygon, MultiPolygon of OGC 06-103r4; that rings may touch and are not told apart is own.
use Rattle.std.specs.Prelude.{◌≡◌, ℕ, pos, ◌≤◌, false, List, [], ◌∷◌, ◌++◌, length, flat_map, map, reverse, if◌then◌else◌}
use Rattle.plane_terms.specs.Lists.{Every, EveryPair}
use Rattle.plane_terms.specs.Point.{Place, IsInReach, same_place}
use Rattle.plane_terms.specs.Rectangle.{Rectangle, rect_of, rect_at, join_of}
use Rattle.plane_terms.specs.Segment.{Segment, segment_between, MeetAtEnds, Overlap}
use Rattle.plane_terms.specs.declared.kind.Kind.{Kind}
use Rattle.plane_terms.specs.declared.kind.Kind.TheVariants as kind

pub record Shape : Type 0 where
  pub kind : Kind
  pub parts : List (List (List Place))

-- the shape of a point
abbrev pub point_shape : Place → Shape
point_shape q = record { kind = kind.Point; parts = ((q ∷ []) ∷ []) ∷ [] }

abbrev pub rings_of : Shape → List (List Place)
rings_of s = flat_map (λ part. part) s.parts

abbrev pub vertices_of : Shape → List Place
vertices_of s = flat_map (λ ring. ring) (rings_of s)

-- from each vertex to the next
abbrev pub path : List Place → List Segment
path [] = []
path (p ∷ []) = []
path (p ∷ q ∷ ps) = segment_between p q ∷ path (q ∷ ps)

-- and from the last to the first
abbrev pub closed_path : List Place → List Segment
closed_path [] = []
closed_path (p ∷ ps) = path (p ∷ ps ++ p ∷ [])

abbrev pub segments_by : Kind → List (List Place) → List Segment
segments_by kind.Point rings = []
segments_by kind.Line rings = flat_map path rings
segments_by kind.Polygon rings = flat_map closed_path rings

abbrev pub segments_of : Shape → List Segment
segments_of s = segments_by s.kind (rings_of s)

abbrev pub last_of : Place → List Place → Place
last_of p [] = p
last_of p (q ∷ qs) = last_of q qs

abbrev pub two_ends : List Place → List Place
two_ends [] = []
two_ends (p ∷ ps) = p ∷ last_of p ps ∷ []

abbrev pub ends_by : Kind → List (List Place) → List Place
ends_by kind.Point rings = []
ends_by kind.Line rings = flat_map two_ends rings
ends_by kind.Polygon rings = []

abbrev pub ends_of : Shape → List Place
ends_of s = ends_by s.kind (rings_of s)

abbrev pub box_from : Rectangle → List Place → Rectangle
box_from r [] = r
box_from r (p ∷ ps) = box_from (join_of r (rect_at p)) ps

-- of no vertices (never) the rectangle at 0 0
abbrev pub box_of_places : List Place → Rectangle
box_of_places [] = rect_of (pos 0) (pos 0) (pos 0) (pos 0)
box_of_places (p ∷ ps) = box_from (rect_at p) ps

unfoldable pub envelope_of : Shape → Rectangle
envelope_of s = box_of_places (vertices_of s)

-- the first vertex; of no vertices (never) 0 0
abbrev pub first_place : List Place → Place
first_place [] = record { x = pos 0; y = pos 0 }
first_place (p ∷ ps) = p

abbrev pub place_of : Shape → Place
place_of s = first_place (vertices_of s)

-- equal neighbours once
abbrev pub without_repeats : List Place → List Place
without_repeats [] = []
without_repeats (p ∷ []) = p ∷ []
without_repeats (p ∷ q ∷ ps) = if same_place p q then without_repeats (q ∷ ps) else p ∷ without_repeats (q ∷ ps)

abbrev pub skip_equal : Place → List Place → List Place
skip_equal p [] = []
skip_equal p (q ∷ qs) = if same_place p q then skip_equal p qs else q ∷ qs

-- without last vertices equal to the first
abbrev pub opened : List Place → List Place
opened [] = []
opened (p ∷ ps) = p ∷ reverse (skip_equal p (reverse ps))

abbrev pub ring_by : Kind → List Place → List Place
ring_by kind.Point ring = ring
ring_by kind.Line ring = without_repeats ring
ring_by kind.Polygon ring = opened (without_repeats ring)

abbrev pub shape_of : Kind → List (List (List Place)) → Shape
shape_of k parts = record { kind = k; parts = map (λ part. map {A = List Place} (ring_by k) part) parts }

abbrev pub AreUnlike : Place → Place → Type 0
AreUnlike p q = same_place p q ≡ false

-- each vertex differs from the next
abbrev pub NextDiffer : List Place → Type 0
NextDiffer [] = Unit {0}
NextDiffer (p ∷ []) = Unit {0}
NextDiffer (p ∷ q ∷ ps) = AreUnlike p q × NextDiffer (q ∷ ps)

abbrev pub IsPart : Kind → List (List Place) → Type 0
IsPart kind.Point part = length part ≡ 1
IsPart kind.Line part = length part ≡ 1
IsPart kind.Polygon part = 1 ≤ length part

abbrev pub IsRing : Kind → List Place → Type 0
IsRing kind.Point ring = length ring ≡ 1
IsRing kind.Line ring = (2 ≤ length ring) × NextDiffer ring
IsRing kind.Polygon ring = (3 ≤ length ring) × NextDiffer (ring ++ first_place ring ∷ [])

-- two segments of a polygon: not along each other, and where they meet an end is
pub record AreSimple (s t : Segment) : Type 0 where
  pub apart : ¬ (Overlap s t)
  pub ends : MeetAtEnds s t

abbrev pub IsSimple : Kind → List Segment → Type 0
IsSimple kind.Point segments = Unit {0}
IsSimple kind.Line segments = Unit {0}
IsSimple kind.Polygon segments = EveryPair AreSimple segments

-- a point has one part, the others at least one
abbrev pub HasParts : Kind → ℕ → Type 0
HasParts kind.Point n = n ≡ 1
HasParts kind.Line n = 1 ≤ n
HasParts kind.Polygon n = 1 ≤ n

pub record IsShape (s : Shape) : Type 0 where
  pub some : HasParts s.kind (length s.parts)
  pub parts : Every (IsPart s.kind) s.parts
  pub rings : Every (IsRing s.kind) (rings_of s)
  pub vertices : length (vertices_of s) ≤ 2000
  pub in_reach : Every IsInReach (vertices_of s)
  pub simple : IsSimple s.kind (segments_of s)

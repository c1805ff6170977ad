-- Two polygons one above the other, or one right of the other.
--
-- highest s, lowest s    the greater and the lesser ordinate of the ends of a segment; its abscissas stand in order
-- ends_below s t, ends_west s t    the test whether s lies no higher than any place of t, or no further east
-- lies_left t s, lies_right t s    the test whether no end of s lies right of the line through t, seen from its lower end; or left of it
-- lies_west t s, lies_east t s     the same as it is seen from below: t may fall
-- no_column s t, no_row s t        the test whether they have no column in common but at an end; or no row
-- is_under s t           s is found to run nowhere above t in the columns of both
-- is_before s t          s is found to run nowhere east of t in the rows of both
-- stands o s t           the one or the other
-- frame_stands o r q     so stands whatever lies in the rectangle r to whatever lies in q
-- are_ordered o us vs    each of the one list stands so to each of the other
-- AreStacked us vs       the lists are ordered one way or the other; no matter which of them comes first
--
-- turned_place q, turned_point p, turned_segment s   with abscissas and ordinates exchanged; the lower end is again the one that comes first
use Rattle.std.specs.Prelude.{◌≡◌, ℤ, pos, Bool, true, ◌&&◌, ◌||◌, if◌then◌else◌, List, ◌⊎◌, int_le}
use Rattle.std.specs.List.{list_all}
use Rattle.std.specs.Int.{int_max, int_min}
use Rattle.plane_terms.specs.Point.{Place, Point}
use Rattle.plane_terms.specs.Rectangle.{Rectangle}
use Rattle.plane_terms.specs.Segment.{Segment, segment_between}
use Rattle.plane_terms.specs.Share.{turn}
use Rattle.rule_loops.specs.declared.stacked.Order.{Order}
use Rattle.rule_loops.specs.declared.stacked.Order.TheVariants as order

abbrev pub highest : Segment → ℤ
highest s = int_max s.lo.y s.hi.y

abbrev pub lowest : Segment → ℤ
lowest s = int_min s.lo.y s.hi.y

abbrev pub ends_below : Segment → Segment → Bool
ends_below s t = int_le (highest s) (lowest t)

abbrev pub ends_west : Segment → Segment → Bool
ends_west s t = int_le s.hi.x t.lo.x

abbrev pub lies_left : Segment → Segment → Bool
lies_left t s = int_le (pos 0) (turn t s.lo) && int_le (pos 0) (turn t s.hi)

abbrev pub lies_right : Segment → Segment → Bool
lies_right t s = int_le (turn t s.lo) (pos 0) && int_le (turn t s.hi) (pos 0)

abbrev pub rises : Segment → Bool
rises s = int_le s.lo.y s.hi.y

abbrev pub lies_west : Segment → Segment → Bool
lies_west t s = if rises t then lies_left t s else lies_right t s

abbrev pub lies_east : Segment → Segment → Bool
lies_east t s = if rises t then lies_right t s else lies_left t s

abbrev pub no_column : Segment → Segment → Bool
no_column s t = ends_west s t || ends_west t s

abbrev pub no_row : Segment → Segment → Bool
no_row s t = ends_below s t || ends_below t s

abbrev pub is_under : Segment → Segment → Bool
is_under s t = no_column s t || (ends_below s t || (lies_right t s || lies_left s t))

abbrev pub is_before : Segment → Segment → Bool
is_before s t = no_row s t || (ends_west s t || (lies_west t s || lies_east s t))

abbrev pub stands : Order → Segment → Segment → Bool
stands order.Under s t = is_under s t
stands order.Before s t = is_before s t

abbrev pub frame_stands : Order → Rectangle → Rectangle → Bool
frame_stands order.Under r q = (int_le r.x1 q.x0 || int_le q.x1 r.x0) || int_le r.y1 q.y0
frame_stands order.Before r q = (int_le r.y1 q.y0 || int_le q.y1 r.y0) || int_le r.x1 q.x0

abbrev pub are_ordered : Order → List Segment → List Segment → Bool
are_ordered o us vs = list_all (λ s. list_all (stands o s) vs) us

abbrev pub AreStacked : List Segment → List Segment → Type 0
AreStacked us vs = (o : Order) × ((are_ordered o us vs ≡ true) ⊎ (are_ordered o vs us ≡ true))

abbrev pub turned_place : Place → Place
turned_place q = record { x = q.y; y = q.x }

abbrev pub turned_point : Point → Point
turned_point p = record { x = p.y; y = p.x; w = p.w; positive = p.positive }

abbrev pub turned_segment : Segment → Segment
turned_segment s = segment_between (turned_place s.lo) (turned_place s.hi)

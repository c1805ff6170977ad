-- Of a view, those of a side, and what the loops over it have made so far.
--
-- later_of A f g       g is of the side A, and its handle is above that of f
-- other_of A f g       g is of the side A, and is not f
-- round_of A q g       g is of the side A, and its envelope holds the place q
-- up_to_three n        n, or 3 where it is more: no rule asks for more than two of a place
-- is_out r s           the lower end of the segment s is out of the rectangle r
-- beside A s g         g is of the side A, and its envelope meets the box of the segment s
-- IsHeldBy s t         each point of the segment s is on the segment t
-- left_of_segment gs s what the features gs leave of the segment s: one of the lists of `sides_left`
use Rattle.std.specs.Prelude.{ℕ, nat_lt, not, Bool, ◌==◌, ◌&&◌, List, [], ◌∷◌, flat_map, if◌then◌else◌}
use Rattle.plane_terms.specs.Point.{Place, Point}
use Rattle.plane_terms.specs.Rectangle.{Rectangle, rects_meet, rect_at, is_within}
use Rattle.plane_terms.specs.Segment.{Segment, OnSegment, box_of}
use Rattle.plane_terms.specs.Cell.{Cell, on_segment}
use Rattle.topology_terms.specs.Feature.{Feature, Side, is_on_side, sides, env}
use Rattle.topology_terms.specs.Cells.{uncovered, out_of_segments}

abbrev pub later_of : Side → Feature → Feature → Bool
later_of A f g = is_on_side A g && nat_lt f.handle g.handle

abbrev pub other_of : Side → Feature → Feature → Bool
other_of A f g = is_on_side A g && not (g.handle == f.handle)

abbrev pub round_of : Side → Place → Feature → Bool
round_of A q g = is_on_side A g && is_within (rect_at q) (env g)

abbrev pub is_out : Rectangle → Segment → Bool
is_out r s = not (is_within (rect_at s.lo) r)

abbrev pub up_to_three : ℕ → ℕ
up_to_three n = if nat_lt n 3 then n else 3

abbrev pub beside : Side → Segment → Feature → Bool
beside A s g = is_on_side A g && rects_meet (box_of s) (env g)

abbrev pub IsHeldBy : Segment → Segment → Type 0
IsHeldBy s t = (p : Point) → OnSegment s p → OnSegment t p

abbrev pub left_of_segment : List Feature → Segment → List Cell
left_of_segment gs s = uncovered (on_segment s ∷ []) (flat_map (λ (g : Feature). out_of_segments s (sides g)) gs)

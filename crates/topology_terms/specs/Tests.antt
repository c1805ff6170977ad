-- Tests at a place of the grid, by which a rule's findings are chosen.
--
-- holds_at ss q        one of the segments holds the place
-- is_inside_at ss q    the place is inside the polygon of these segments
-- has_end_at qs q      the place is one of these
-- in_order_once qs     the places, each once, at its first
-- segments_at gs q, ends_at gs q     how many segments, and how many ends, of all these features hold the place, or are at it
-- closed_cells f       the cells of a polygon's inside and of its boundary
-- covers f g           each point inside f or on its boundary is inside g or on its boundary
use Rattle.std.specs.Prelude.{ℕ, Bool, true, false, ◌&&◌, not, List, [], ◌∷◌, ◌++◌, map, filter}
use Rattle.std.specs.List.{list_any}
use Rattle.plane_terms.specs.Lists.{how_many, is_odd}
use Rattle.plane_terms.specs.Point.{Place, same_place, point_at}
use Rattle.plane_terms.specs.Segment.{Segment}
use Rattle.plane_terms.specs.Cell.{Cell, on_segment}
use Rattle.plane_terms.specs.Carve.{carve_of}
use Rattle.plane_terms.specs.Polygon.{counts}
use Rattle.plane_terms.specs.Line.{holds_place}
use Rattle.topology_terms.specs.Feature.{Feature, sides}
use Rattle.topology_terms.specs.Together.{sides_all, ends_all}
use Rattle.topology_terms.specs.Cells.{inside, outside}

abbrev pub holds_at : List Segment → Place → Bool
holds_at ss q = list_any (λ t. holds_place t q) ss

abbrev pub is_inside_at : List Segment → Place → Bool
is_inside_at ss q = not (holds_at ss q) && is_odd (how_many (λ s. counts s (point_at q)) ss)

abbrev pub has_end_at : List Place → Place → Bool
has_end_at qs q = list_any (same_place q) qs

abbrev pub in_order_once : List Place → List Place
in_order_once [] = []
in_order_once (q ∷ qs) = q ∷ filter (λ r. not (same_place q r)) (in_order_once qs)

abbrev pub segments_at : List Feature → Place → ℕ
segments_at gs q = how_many (λ t. holds_place t q) (sides_all gs)

abbrev pub ends_at : List Feature → Place → ℕ
ends_at gs q = how_many (same_place q) (ends_all gs)

abbrev pub is_empty : {A : Type 0} → List A → Bool
is_empty [] = true
is_empty (x ∷ xs) = false

-- inside or on the boundary
abbrev pub closed_cells : Feature → List Cell
closed_cells f = inside f ++ map {A = Segment} on_segment (sides f)

abbrev pub covers : Feature → Feature → Bool
covers f g = is_empty (carve_of (closed_cells f) (outside g))

-- Cells of shapes, from which the rules' findings are cut.
--
-- uncovered cs dss     the cells cs, carved by each list of dss in turn; cs as they are where there is none
-- inside f, outside f  the cells of a polygon's inside, and of what is neither inside nor on its boundary
-- in_common s t        the one cell of what two segments have in common; none where they have no point in common
-- along s t            the same where they overlap, and none elsewhere
-- off_places es s t    the same, carved by the outsides of those of the places es that lie on both
-- each_pair cells ss ts    the cells of each segment of ss with each of ts, in this order
-- each_later cells ss  the cells of each segment of ss with each later one, in this order
-- later_crossings es rings     of a line's segments with each later one; of neighbours in one part only where they overlap
-- out_of_segments s ss     for each segment of ss whose box meets that of s, the cells out of it
--
-- Each is a function of shapes; a test tells the empty cells, which are dropped. Source: own.
use Rattle.std.specs.Prelude.{Bool, ◌&&◌, List, [], ◌∷◌, ◌++◌, map, filter, flat_map, if◌then◌else◌}
use Rattle.plane_terms.specs.Point.{Place}
use Rattle.plane_terms.specs.Rectangle.{rects_meet}
use Rattle.plane_terms.specs.Segment.{Segment, overlap, box_of}
use Rattle.plane_terms.specs.Cell.{Cell, meet_of, on_segment, out_of_segment, out_of_place}
use Rattle.plane_terms.specs.Carve.{kept, carve_of}
use Rattle.plane_terms.specs.Columns.{inside_cells, outside_cells}
use Rattle.plane_terms.specs.Line.{holds_place}
use Rattle.plane_terms.specs.Shape.{path}
use Rattle.topology_terms.specs.Feature.{Feature, sides}

abbrev pub uncovered : List Cell → List (List Cell) → List Cell
uncovered cs [] = cs
uncovered cs (ds ∷ dss) = uncovered (carve_of cs ds) dss

abbrev pub inside : Feature → List Cell
inside f = inside_cells (sides f)

abbrev pub outside : Feature → List Cell
outside f = outside_cells (sides f)

-- ---- two segments
abbrev pub in_common : Segment → Segment → List Cell
in_common s t = kept (meet_of (on_segment s) (on_segment t) ∷ [])

abbrev pub along : Segment → Segment → List Cell
along s t = if overlap s t then in_common s t else []

abbrev pub on_both : Segment → Segment → Place → Bool
on_both s t q = holds_place s q && holds_place t q

abbrev pub off_places : List Place → Segment → Segment → List Cell
off_places es s t = uncovered (in_common s t) (map {A = Place} out_of_place (filter (on_both s t) es))

-- ---- segments of two lists, or of one
abbrev pub each_pair : (Segment → Segment → List Cell) → List Segment → List Segment → List Cell
each_pair cells ss ts = flat_map (λ (s : Segment). flat_map (cells s) ts) ss

abbrev pub each_later : (Segment → Segment → List Cell) → List Segment → List Cell
each_later cells [] = []
each_later cells (s ∷ ss) = flat_map (cells s) ss ++ each_later cells ss

-- s with the next of its part, with the others of it, and with those of later parts
abbrev pub crossings_of : List Place → Segment → List Segment → List Segment → List Cell
crossings_of es s [] later = flat_map (off_places es s) later
crossings_of es s (t ∷ ts) later = (if overlap s t then off_places es s t else []) ++ flat_map (off_places es s) (ts ++ later)

abbrev pub in_part : List Place → List Segment → List Segment → List Cell
in_part es [] later = []
in_part es (s ∷ ss) later = crossings_of es s ss later ++ in_part es ss later

abbrev pub later_crossings : List Place → List (List Place) → List Cell
later_crossings es [] = []
later_crossings es (ring ∷ rings) = in_part es (path ring) (flat_map path rings) ++ later_crossings es rings

-- ---- what others leave of a segment
abbrev pub box_meets : Segment → Segment → Bool
box_meets s t = rects_meet (box_of s) (box_of t)

abbrev pub out_of_segments : Segment → List Segment → List (List Cell)
out_of_segments s ss = map {A = Segment} out_of_segment (filter (box_meets s) ss)

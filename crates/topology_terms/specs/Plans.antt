-- How the findings of each rule are cut.
--
-- near A f F           the features of the side whose envelope meets the subject's, in the order of F; with the subject itself, where it
--                      is of the side
-- near_after A f F     of those, the ones whose handle is above the subject's
-- Around               whom a subject is judged with: the near of its own side that come after it, all the near of its own side, itself
--                      included, the near of the second side, or, where subjects are of both sides, the near of the other one
-- finding_of b cells   the finding of these cells, where there are any
-- pair_findings cells gs   for each partner of gs whose cells there are, a finding of them
-- Plan                 how findings are made
-- WithEach who cells   for each partner whose cells there are, a finding of them
-- Alone who cells      one finding, of the cells that the subject has among those around it; none where there are none
-- Whole who test       a finding of the whole subject, where the test says so
-- plan_of k            the plan of each rule
-- cut_by plan row F f  the findings by a plan
-- cutting_of row F f   the findings of a subject; none where the rule does not judge it
-- IsCutting row F a xs     xs are the findings of the live feature a
--
-- The findings of a subject, their order and the order of their cells are those of this one list. Source: own.
use Rattle.std.specs.Prelude.{◌≡◌, ℕ, nat_lt, Bool, true, false, ◌&&◌, not, ◌==◌, List, [], ◌∷◌, ◌++◌, map, filter, flat_map, Some, if◌then◌else◌, length}
use Rattle.std.specs.List.{list_any}
use Rattle.plane_terms.specs.Point.{Place, same_place}
use Rattle.plane_terms.specs.Rectangle.{rects_meet}
use Rattle.plane_terms.specs.Segment.{Segment}
use Rattle.plane_terms.specs.Shape.{rings_of}
use Rattle.plane_terms.specs.Cell.{Cell, at_place, on_segment, box_round, weak_of}
use Rattle.plane_terms.specs.Carve.{carve_of}
use Rattle.topology_terms.specs.Feature.{Feature, Side, is_on_side, feature_at, sides, place, env}
use Rattle.topology_terms.specs.Broken.{Row, judged}
use Rattle.topology_terms.specs.Meaning.{Finding}
use Rattle.rule_words.specs.declared.rule_kind.RuleKind.{RuleKind}
use Rattle.rule_words.specs.declared.rule_kind.RuleKind.TheVariants as rule
use Rattle.topology_terms.specs.Cells.{uncovered, inside, outside, along, off_places, each_pair, each_later, later_crossings, out_of_segments}
use Rattle.topology_terms.specs.Together.{ends}
use Rattle.topology_terms.specs.Tests.{holds_at, is_inside_at, has_end_at, segments_at, ends_at, in_order_once, covers}

abbrev pub near : Side → Feature → List Feature → List Feature
near A f F = filter (λ (g : Feature). is_on_side A g && rects_meet (env f) (env g)) F

abbrev pub near_after : Side → Feature → List Feature → List Feature
near_after A f F = filter (λ (g : Feature). nat_lt f.handle g.handle) (near A f F)

pub data Around : Type 0 where
  Later : Around
  Own : Around
  Second : Around
  Other : Around

abbrev pub side_by : Around → Row → Feature → Side
side_by Later row f = row.origin
side_by Own row f = row.origin
side_by Second row f = row.dest
side_by Other row f = if is_on_side row.origin f then row.dest else row.origin

abbrev pub around : Around → Row → List Feature → Feature → List Feature
around Later row F f = near_after row.origin f F
around Own row F f = near row.origin f F
around Second row F f = near row.dest f F
around Other row F f = near (side_by Other row f) f F

pub data Plan : Type 0 where
  WithEach : Around → (Feature → Feature → List Cell) → Plan
  Alone : Around → (Feature → List Feature → List Cell) → Plan
  Whole : Around → (Feature → List Feature → Bool) → Plan

-- a finding where there are cells
abbrev pub finding_of : ℕ → List Cell → List Finding
finding_of b [] = []
finding_of b (c ∷ cs) = record { other = b; whole = false; cells = c ∷ cs } ∷ []

abbrev pub pair_findings : (Feature → List Cell) → List Feature → List Finding
pair_findings cells gs = flat_map (λ (g : Feature). finding_of g.handle (cells g)) gs

abbrev pub whole_finding : List Finding
whole_finding = record { other = 0; whole = true; cells = [] } ∷ []

abbrev pub cut_by : Plan → Row → List Feature → Feature → List Finding
cut_by (WithEach who cells) row F f = pair_findings (cells f) (around who row F f)
cut_by (Alone who cells) row F f = finding_of 0 (cells f (around who row F f))
cut_by (Whole who test) row F f = if test f (around who row F f) then whole_finding else []

-- ---- points in common
-- inside both polygons
abbrev pub overlap_cells : Feature → Feature → List Cell
overlap_cells f g = carve_of (inside f) (inside g)

-- of two lines, where segments overlap
abbrev pub common_stretches : Feature → Feature → List Cell
common_stretches f g = each_pair along (sides f) (sides g)

-- but for the ends of both
abbrev pub common_inner : Feature → Feature → List Cell
common_inner f g = each_pair (off_places (ends f ++ ends g)) (sides f) (sides g)

-- but for places that are ends of both
abbrev pub common_but_ends : Feature → Feature → List Cell
common_but_ends f g = each_pair (off_places (filter (has_end_at (ends g)) (ends f))) (sides f) (sides g)

-- the place of two points
abbrev pub common_place : Feature → Feature → List Cell
common_place f g = if same_place (place f) (place g) then at_place (place f) ∷ [] else []

-- ---- what others do not cover
abbrev pub area_left : Feature → List Feature → List Cell
area_left f gs = uncovered (inside f) (map {A = Feature} outside gs)

abbrev pub sides_left : Feature → List Feature → List Cell
sides_left f gs = flat_map (λ (s : Segment). uncovered (on_segment s ∷ []) (flat_map (λ (g : Feature). out_of_segments s (sides g)) gs))
    (sides f)

-- ---- gaps
abbrev pub others : Feature → List Feature → List Feature
others f gs = filter (λ (g : Feature). not (g.handle == f.handle)) gs

abbrev pub open_ground : Feature → List Feature → List Cell
open_ground f gs = uncovered (box_round (env f) ∷ []) (outside f ∷ map {A = Feature} outside (others f gs))

abbrev pub gap_cells : Feature → List Feature → List Cell
gap_cells f gs = carve_of (map {A = Segment} on_segment (sides f)) (map {A = Cell} weak_of (open_ground f gs))

-- ---- places that break a rule, by a test of those around
abbrev pub bad_places : (Feature → List Place) → (List Feature → Place → Bool) → Feature → List Feature → List Cell
bad_places places bad f gs = map {A = Place} at_place (filter (bad gs) (places f))

abbrev pub own_place : Feature → List Place
own_place f = place f ∷ []

abbrev pub own_ends : Feature → List Place
own_ends f = in_order_once (ends f)

-- the test holds for none of them at the place
abbrev pub none_at : (Feature → Place → Bool) → List Feature → Place → Bool
none_at at gs q = not (list_any (λ (g : Feature). at g q) gs)

abbrev pub is_point_at : Feature → Place → Bool
is_point_at g q = same_place (place g) q

abbrev pub has_side_at : Feature → Place → Bool
has_side_at g q = holds_at (sides g) q

abbrev pub is_round : Feature → Place → Bool
is_round g q = is_inside_at (sides g) q

abbrev pub ends_there : Feature → Place → Bool
ends_there g q = has_end_at (ends g) q

abbrev pub is_dangle : List Feature → Place → Bool
is_dangle gs q = segments_at gs q == 1

abbrev pub is_pseudo : List Feature → Place → Bool
is_pseudo gs q = ends_at gs q == 2 && segments_at gs q == 2

-- ---- the subject with itself
abbrev pub own_stretches : Feature → List Feature → List Cell
own_stretches f gs = each_later along (sides f)

abbrev pub own_crossings : Feature → List Feature → List Cell
own_crossings f gs = later_crossings (ends f) (rings_of f.shape)

-- ---- the whole subject
abbrev pub none_covers : Feature → List Feature → Bool
none_covers f gs = not (list_any (covers f) gs)

abbrev pub none_inside : Feature → List Feature → Bool
none_inside f gs = not (list_any (λ (g : Feature). is_inside_at (sides f) (place g)) gs)

abbrev pub has_parts : Feature → List Feature → Bool
has_parts f gs = nat_lt 1 (length f.shape.parts)

abbrev pub plan_of : RuleKind → Plan
plan_of rule.PolygonMustNotOverlap = WithEach Later overlap_cells
plan_of rule.PolygonMustNotOverlapWith = WithEach Second overlap_cells
plan_of rule.PolygonMustNotHaveGaps = Alone Own gap_cells
plan_of rule.PolygonMustBeCoveredByFeatureClassOf = Alone Second area_left
plan_of rule.PolygonMustCoverEachOther = Alone Other area_left
plan_of rule.PolygonBoundaryMustBeCoveredBy = Alone Second sides_left
plan_of rule.PolygonAreaBoundaryMustBeCoveredByBoundaryOf = Alone Second sides_left
plan_of rule.PolygonMustBeCoveredBy = Whole Second none_covers
plan_of rule.PolygonContainsPoint = Whole Second none_inside
plan_of rule.LineMustNotOverlap = WithEach Later common_stretches
plan_of rule.LineMustNotOverlapWith = WithEach Second common_stretches
plan_of rule.LineMustNotIntersect = WithEach Later common_inner
plan_of rule.LineMustNotIntersectOrTouchInterior = WithEach Later common_but_ends
plan_of rule.LineMustNotHaveDangles = Alone Own (bad_places own_ends is_dangle)
plan_of rule.LineMustNotHavePseudoNodes = Alone Own (bad_places own_ends is_pseudo)
plan_of rule.LineMustBeCoveredByFeatureClassOf = Alone Second sides_left
plan_of rule.LineMustBeCoveredByBoundaryOf = Alone Second sides_left
plan_of rule.LineEndpointMustBeCoveredBy = Alone Second (bad_places own_ends (none_at is_point_at))
plan_of rule.LineMustNotSelfOverlap = Alone Own own_stretches
plan_of rule.LineMustNotSelfIntersect = Alone Own own_crossings
plan_of rule.LineMustBeSinglePart = Whole Own has_parts
plan_of rule.PointMustBeDisjoint = WithEach Later common_place
plan_of rule.PointMustCoincideWith = Alone Second (bad_places own_place (none_at is_point_at))
plan_of rule.PointMustBeProperlyInside = Alone Second (bad_places own_place (none_at is_round))
plan_of rule.PointMustBeCoveredByBoundaryOf = Alone Second (bad_places own_place (none_at has_side_at))
plan_of rule.PointMustBeCoveredByLine = Alone Second (bad_places own_place (none_at has_side_at))
plan_of rule.PointMustBeCoveredByEndpointOf = Alone Second (bad_places own_place (none_at ends_there))

abbrev pub cutting_of : Row → List Feature → Feature → List Finding
cutting_of row F f = if judged row f then cut_by (plan_of row.kind) row F f else []

unfoldable pub IsCutting : Row → List Feature → ℕ → List Finding → Type 0
IsCutting row F a xs = (f : Feature) × (feature_at F a ≡ Some f) × (xs ≡ cutting_of row F f)

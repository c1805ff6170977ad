-- Cuttings of the rules on polygons, on small maps, as an independent program cuts them: they fix the order and the form of the findings'
-- cells.
use Rattle.std.proofs.Common.{◌≡◌, pos, List, [], ◌∷◌, refl}
use Rattle.plane_terms.specs.Shape.{envelope_of}
use Rattle.plane_terms.specs.Decide.{has_point, parts_allow, pair_allows, parts_of, shadow_of, flat_by, with_bound, pair_by, is_above}
use Rattle.rule_words.specs.declared.rule_kind.RuleKind.TheVariants as rule
use Rattle.topology_terms.specs.Feature.{Feature, feature_at}
use Rattle.topology_terms.proofs.Rows.Maps.{minus, at, point, line, polygon, over, at_least, zero, found, whole, cut}

-- 1 of: 1 POLYGON ((3 3, 2 3, 2 2, 3 2, 3 3)); 1 POLYGON ((2 2, 3 2, 3 3, 2 3, 2 2))
abbrev map_polygon_must_not_overlap_1 : List Feature
map_polygon_must_not_overlap_1 =
    polygon 1 1 (((at (pos 3) (pos 3) ∷ at (pos 2) (pos 3) ∷ at (pos 2) (pos 2) ∷ at (pos 3) (pos 2) ∷ []) ∷ []) ∷ [])
    ∷ polygon 2 1 (((at (pos 2) (pos 2) ∷ at (pos 3) (pos 2) ∷ at (pos 3) (pos 3) ∷ at (pos 2) (pos 3) ∷ []) ∷ []) ∷ [])
    ∷ []

polygon_must_not_overlap_1 : cut rule.PolygonMustNotOverlap 1 0 map_polygon_must_not_overlap_1 1
    ≡ found 2 ((over (pos 1) (pos 0) (minus 2) ∷ over (minus 1) (pos 0) (pos 3) ∷ over (pos 0) (pos 1) (minus 2)
    ∷ over (pos 0) (minus 1) (pos 3) ∷ []) ∷ []) ∷ []
unfolding feature_at envelope_of has_point parts_allow pair_allows parts_of shadow_of flat_by with_bound pair_by is_above
polygon_must_not_overlap_1 = refl

-- 1 of: 1 POLYGON ((-2 -1, 2 0, 2 -1, -1 -1, -2 -1), (-2 -1, -4 -2, -4 -1, -3 -1, -2 -1)); 1 POLYGON ((-2 -1, 2 -1, 2 0, -2 0, -2
-- -1)); 1 POLYGON ((1 2, 0 2, 0 -2, 1 -2, 1 2))
abbrev map_polygon_must_not_overlap_2 : List Feature
map_polygon_must_not_overlap_2 =
    polygon 1 1 (((at (minus 2) (minus 1) ∷ at (pos 2) (pos 0) ∷ at (pos 2) (minus 1) ∷ at (minus 1) (minus 1) ∷ [])
    ∷ (at (minus 2) (minus 1) ∷ at (minus 4) (minus 2) ∷ at (minus 4) (minus 1) ∷ at (minus 3) (minus 1) ∷ []) ∷ []) ∷ [])
    ∷ polygon 2 1 (((at (minus 2) (minus 1) ∷ at (pos 2) (minus 1) ∷ at (pos 2) (pos 0) ∷ at (minus 2) (pos 0) ∷ []) ∷ []) ∷ [])
    ∷ polygon 3 1 (((at (pos 1) (pos 2) ∷ at (pos 0) (pos 2) ∷ at (pos 0) (minus 2) ∷ at (pos 1) (minus 2) ∷ []) ∷ []) ∷ [])
    ∷ []

polygon_must_not_overlap_2 : cut rule.PolygonMustNotOverlap 1 0 map_polygon_must_not_overlap_2 1
    ≡ found 2 ((over (pos 1) (pos 0) (pos 2) ∷ over (minus 1) (pos 0) (minus 1) ∷ over (pos 0) (pos 1) (pos 1)
    ∷ over (pos 1) (minus 4) (minus 2) ∷ over (minus 1) (pos 0) (pos 2) ∷ over (pos 0) (pos 4) (pos 4)
    ∷ over (pos 0) (minus 4) (pos 0) ∷ []) ∷ (zero (pos 1) (pos 0) (pos 1) ∷ over (pos 0) (pos 3) (pos 3)
    ∷ over (pos 1) (minus 4) (minus 2) ∷ over (pos 0) (pos 1) (pos 1) ∷ over (pos 1) (pos 0) (pos 2) ∷ over (minus 1) (pos 0) (pos 2)
    ∷ over (pos 0) (pos 4) (pos 4) ∷ over (pos 0) (minus 4) (pos 0) ∷ []) ∷ (over (pos 1) (pos 0) (pos 1)
    ∷ over (minus 1) (pos 0) (pos 2) ∷ over (pos 0) (pos 3) (pos 3) ∷ over (pos 1) (minus 4) (minus 2) ∷ over (pos 1) (pos 0) (pos 2)
    ∷ over (pos 0) (pos 4) (pos 4) ∷ over (pos 0) (minus 4) (pos 0) ∷ []) ∷ []) ∷ found 3 ((over (pos 1) (pos 0) (pos 1)
    ∷ over (minus 1) (pos 0) (pos 2) ∷ over (pos 0) (pos 3) (pos 3) ∷ over (pos 1) (minus 4) (minus 2) ∷ over (pos 1) (pos 0) (pos 0)
    ∷ over (minus 1) (pos 0) (pos 1) ∷ over (pos 0) (pos 1) (pos 2) ∷ over (pos 0) (minus 1) (pos 2) ∷ []) ∷ []) ∷ []
unfolding feature_at envelope_of has_point parts_allow pair_allows parts_of shadow_of flat_by with_bound pair_by is_above
polygon_must_not_overlap_2 = refl

-- 1 of: 1 POLYGON ((-1 0, 1 2, 3 0, 3 4, 1 2, -1 4, -1 0)); 1 MULTIPOLYGON (((0 2, -1 2, -1 0, 0 0, 0 2)), ((-1 -1, 1 -2, -1 0, -1
-- -1))); 1 POLYGON ((-1 -1, 1 1, 3 -1, 3 3, 1 1, -1 3, -1 -1))
abbrev map_polygon_must_not_overlap_3 : List Feature
map_polygon_must_not_overlap_3 =
    polygon 1 1 (((at (minus 1) (pos 0) ∷ at (pos 1) (pos 2) ∷ at (pos 3) (pos 0) ∷ at (pos 3) (pos 4) ∷ at (pos 1) (pos 2)
    ∷ at (minus 1) (pos 4) ∷ []) ∷ []) ∷ [])
    ∷ polygon 2 1 (((at (pos 0) (pos 2) ∷ at (minus 1) (pos 2) ∷ at (minus 1) (pos 0) ∷ at (pos 0) (pos 0) ∷ []) ∷ [])
    ∷ ((at (minus 1) (minus 1) ∷ at (pos 1) (minus 2) ∷ at (minus 1) (pos 0) ∷ []) ∷ []) ∷ [])
    ∷ polygon 3 1 (((at (minus 1) (minus 1) ∷ at (pos 1) (pos 1) ∷ at (pos 3) (minus 1) ∷ at (pos 3) (pos 3) ∷ at (pos 1) (pos 1)
    ∷ at (minus 1) (pos 3) ∷ []) ∷ []) ∷ [])
    ∷ []

polygon_must_not_overlap_3 : cut rule.PolygonMustNotOverlap 1 0 map_polygon_must_not_overlap_3 1
    ≡ found 2 ((over (pos 1) (pos 0) (pos 1) ∷ over (minus 1) (pos 0) (pos 1) ∷ over (minus 2) (pos 2) (minus 2)
    ∷ over (minus 2) (minus 2) (pos 6) ∷ over (minus 1) (pos 0) (pos 0) ∷ over (pos 0) (pos 1) (pos 0)
    ∷ over (pos 0) (minus 1) (pos 2) ∷ []) ∷ []) ∷ found 3 ((over (pos 1) (pos 0) (pos 1) ∷ over (minus 1) (pos 0) (pos 1)
    ∷ over (minus 2) (pos 2) (minus 2) ∷ over (minus 2) (minus 2) (pos 6) ∷ over (minus 2) (pos 2) (pos 0)
    ∷ over (minus 2) (minus 2) (pos 4) ∷ []) ∷ (over (pos 1) (pos 0) (minus 1) ∷ over (minus 1) (pos 0) (pos 3)
    ∷ over (pos 2) (pos 2) (minus 6) ∷ over (pos 2) (minus 2) (pos 2) ∷ over (pos 2) (pos 2) (minus 4)
    ∷ over (pos 2) (minus 2) (pos 0) ∷ []) ∷ []) ∷ []
unfolding feature_at envelope_of has_point parts_allow pair_allows parts_of shadow_of flat_by with_bound pair_by is_above
polygon_must_not_overlap_3 = refl

-- 2 of: 1 POLYGON ((0 1, 3 0, 2 2, 0 1)); 1 POLYGON ((3 0, 5 2, 7 0, 7 4, 5 2, 3 4, 3 0))
abbrev map_polygon_must_not_overlap_4 : List Feature
map_polygon_must_not_overlap_4 =
    polygon 1 1 (((at (pos 0) (pos 1) ∷ at (pos 3) (pos 0) ∷ at (pos 2) (pos 2) ∷ []) ∷ []) ∷ [])
    ∷ polygon 2 1 (((at (pos 3) (pos 0) ∷ at (pos 5) (pos 2) ∷ at (pos 7) (pos 0) ∷ at (pos 7) (pos 4) ∷ at (pos 5) (pos 2)
    ∷ at (pos 3) (pos 4) ∷ []) ∷ []) ∷ [])
    ∷ []

polygon_must_not_overlap_4 : cut rule.PolygonMustNotOverlap 1 0 map_polygon_must_not_overlap_4 2 ≡ []
unfolding feature_at envelope_of has_point parts_allow pair_allows parts_of shadow_of flat_by with_bound pair_by is_above
polygon_must_not_overlap_4 = refl

-- 1 of: 1 POLYGON ((1 -2, -2 -2, -1 1, 1 -2)); 2 POLYGON ((1 -2, -1 -2, -1 1, 1 1, 1 -2))
abbrev map_polygon_must_not_overlap_with_1 : List Feature
map_polygon_must_not_overlap_with_1 =
    polygon 1 1 (((at (pos 1) (minus 2) ∷ at (minus 2) (minus 2) ∷ at (minus 1) (pos 1) ∷ []) ∷ []) ∷ [])
    ∷ polygon 2 2 (((at (pos 1) (minus 2) ∷ at (minus 1) (minus 2) ∷ at (minus 1) (pos 1) ∷ at (pos 1) (pos 1) ∷ []) ∷ []) ∷ [])
    ∷ []

polygon_must_not_overlap_with_1 : cut rule.PolygonMustNotOverlapWith 1 2 map_polygon_must_not_overlap_with_1 1
    ≡ found 2 ((over (pos 1) (pos 0) (pos 1) ∷ over (minus 1) (pos 0) (pos 1) ∷ over (pos 0) (pos 3) (pos 6)
    ∷ over (minus 3) (minus 2) (minus 1) ∷ over (pos 0) (pos 2) (pos 4) ∷ over (pos 0) (minus 2) (pos 2) ∷ []) ∷ []) ∷ []
unfolding feature_at envelope_of has_point parts_allow pair_allows parts_of shadow_of flat_by with_bound pair_by is_above
polygon_must_not_overlap_with_1 = refl

-- 4 of: 1 POLYGON ((2 -2, -2 -2, -1 -1, 2 -2)); 2 MULTIPOLYGON (((2 -2, 0 -2, 0 2, 2 2, 2 -2)), ((2 1, 0 1, 1 2, 2 1))); 2 POLYGON
-- ((0 1, 0 2, 1 0, 2 1, 0 -2, 0 1)); 1 POLYGON ((-2 -1, 1 -1, -1 2, -2 -1))
abbrev map_polygon_must_not_overlap_with_2 : List Feature
map_polygon_must_not_overlap_with_2 =
    polygon 1 1 (((at (pos 2) (minus 2) ∷ at (minus 2) (minus 2) ∷ at (minus 1) (minus 1) ∷ []) ∷ []) ∷ [])
    ∷ polygon 2 2 (((at (pos 2) (minus 2) ∷ at (pos 0) (minus 2) ∷ at (pos 0) (pos 2) ∷ at (pos 2) (pos 2) ∷ []) ∷ [])
    ∷ ((at (pos 2) (pos 1) ∷ at (pos 0) (pos 1) ∷ at (pos 1) (pos 2) ∷ []) ∷ []) ∷ [])
    ∷ polygon 3 2 (((at (pos 0) (pos 1) ∷ at (pos 0) (pos 2) ∷ at (pos 1) (pos 0) ∷ at (pos 2) (pos 1) ∷ at (pos 0) (minus 2) ∷ []) ∷ [])
    ∷ [])
    ∷ polygon 4 1 (((at (minus 2) (minus 1) ∷ at (pos 1) (minus 1) ∷ at (minus 1) (pos 2) ∷ []) ∷ []) ∷ [])
    ∷ []

polygon_must_not_overlap_with_2 : cut rule.PolygonMustNotOverlapWith 1 2 map_polygon_must_not_overlap_with_2 4
    ≡ found 2 ((over (pos 1) (pos 0) (pos 1) ∷ over (minus 1) (pos 0) (pos 1) ∷ over (pos 0) (pos 3) (pos 3)
    ∷ over (minus 3) (minus 2) (pos 1) ∷ over (pos 1) (pos 0) (pos 0) ∷ over (pos 0) (pos 2) (pos 4) ∷ over (pos 0) (minus 2) (pos 2)
    ∷ []) ∷ []) ∷ found 3 ((over (pos 1) (pos 0) (pos 1) ∷ over (minus 1) (pos 0) (pos 1) ∷ over (pos 0) (pos 3) (pos 3)
    ∷ over (minus 3) (minus 2) (pos 1) ∷ over (pos 1) (pos 0) (pos 0) ∷ over (minus 3) (pos 2) (pos 4)
    ∷ over (minus 2) (minus 1) (pos 2) ∷ []) ∷ []) ∷ []
unfolding feature_at envelope_of has_point parts_allow pair_allows parts_of shadow_of flat_by with_bound pair_by is_above
polygon_must_not_overlap_with_2 = refl

-- 3 of: 1 POLYGON ((1 -2, 1 1, -2 3, 1 -2)); 2 POLYGON ((2 3, 1 -2, 0 -2, 2 3)); 1 POLYGON ((2 -1, -2 -1, -2 -3, 2 -3, 2 -1))
abbrev map_polygon_must_not_overlap_with_3 : List Feature
map_polygon_must_not_overlap_with_3 =
    polygon 1 1 (((at (pos 1) (minus 2) ∷ at (pos 1) (pos 1) ∷ at (minus 2) (pos 3) ∷ []) ∷ []) ∷ [])
    ∷ polygon 2 2 (((at (pos 2) (pos 3) ∷ at (pos 1) (minus 2) ∷ at (pos 0) (minus 2) ∷ []) ∷ []) ∷ [])
    ∷ polygon 3 1 (((at (pos 2) (minus 1) ∷ at (minus 2) (minus 1) ∷ at (minus 2) (minus 3) ∷ at (pos 2) (minus 3) ∷ []) ∷ []) ∷ [])
    ∷ []

polygon_must_not_overlap_with_3 : cut rule.PolygonMustNotOverlapWith 1 2 map_polygon_must_not_overlap_with_3 3
    ≡ found 2 ((over (pos 1) (pos 0) (pos 2) ∷ over (minus 1) (pos 0) (pos 2) ∷ over (pos 0) (pos 4) (pos 12)
    ∷ over (pos 0) (minus 4) (minus 4) ∷ over (pos 1) (pos 0) (pos 0) ∷ over (minus 1) (pos 0) (pos 1) ∷ over (pos 0) (pos 1) (pos 2)
    ∷ over (pos 5) (minus 2) (minus 4) ∷ []) ∷ (over (pos 1) (pos 0) (pos 2) ∷ over (minus 1) (pos 0) (pos 2)
    ∷ over (pos 0) (pos 4) (pos 12) ∷ over (pos 0) (minus 4) (minus 4) ∷ zero (pos 1) (pos 0) (minus 1)
    ∷ over (minus 5) (pos 1) (pos 7) ∷ over (pos 5) (minus 2) (minus 4) ∷ over (pos 0) (pos 1) (pos 2) ∷ [])
    ∷ (over (pos 1) (pos 0) (pos 2) ∷ over (minus 1) (pos 0) (pos 2) ∷ over (pos 0) (pos 4) (pos 12)
    ∷ over (pos 0) (minus 4) (minus 4) ∷ over (pos 1) (pos 0) (minus 1) ∷ over (minus 5) (pos 1) (pos 7)
    ∷ over (pos 5) (minus 2) (minus 4) ∷ []) ∷ []) ∷ []
unfolding feature_at envelope_of has_point parts_allow pair_allows parts_of shadow_of flat_by with_bound pair_by is_above
polygon_must_not_overlap_with_3 = refl

-- 2 of: 1 POLYGON ((1 1, 2 1, 2 -1, 1 -1, 1 1)); 1 POLYGON ((-1 -2, 0 -2, 1 1, -1 -2))
abbrev map_polygon_must_not_overlap_with_4 : List Feature
map_polygon_must_not_overlap_with_4 =
    polygon 1 1 (((at (pos 1) (pos 1) ∷ at (pos 2) (pos 1) ∷ at (pos 2) (minus 1) ∷ at (pos 1) (minus 1) ∷ []) ∷ []) ∷ [])
    ∷ polygon 2 1 (((at (minus 1) (minus 2) ∷ at (pos 0) (minus 2) ∷ at (pos 1) (pos 1) ∷ []) ∷ []) ∷ [])
    ∷ []

polygon_must_not_overlap_with_4 : cut rule.PolygonMustNotOverlapWith 1 2 map_polygon_must_not_overlap_with_4 2 ≡ []
unfolding feature_at envelope_of has_point parts_allow pair_allows parts_of shadow_of flat_by with_bound pair_by is_above
polygon_must_not_overlap_with_4 = refl

-- 1 of: 1 POLYGON ((-2 1, 0 1, 0 0, -2 0, -2 1)); 1 POLYGON ((2 3, -2 3, -2 -1, 2 -1, 2 3))
abbrev map_polygon_must_not_have_gaps_1 : List Feature
map_polygon_must_not_have_gaps_1 =
    polygon 1 1 (((at (minus 2) (pos 1) ∷ at (pos 0) (pos 1) ∷ at (pos 0) (pos 0) ∷ at (minus 2) (pos 0) ∷ []) ∷ []) ∷ [])
    ∷ polygon 2 1 (((at (pos 2) (pos 3) ∷ at (minus 2) (pos 3) ∷ at (minus 2) (minus 1) ∷ at (pos 2) (minus 1) ∷ []) ∷ []) ∷ [])
    ∷ []

polygon_must_not_have_gaps_1 : cut rule.PolygonMustNotHaveGaps 1 0 map_polygon_must_not_have_gaps_1 1
    ≡ found 0 ((zero (pos 0) (pos 2) (minus 2) ∷ at_least (pos 1) (pos 0) (pos 2) ∷ at_least (minus 1) (pos 0) (pos 0)
    ∷ at_least (pos 0) (pos 1) (minus 1) ∷ at_least (pos 0) (minus 1) (pos 1) ∷ at_least (pos 1) (pos 0) (pos 3)
    ∷ at_least (minus 1) (pos 0) (pos 1) ∷ at_least (pos 0) (pos 1) (pos 1) ∷ at_least (pos 0) (minus 1) (pos 2)
    ∷ at_least (minus 1) (pos 0) (minus 2) ∷ []) ∷ (zero (pos 0) (pos 2) (pos 0) ∷ at_least (pos 1) (pos 0) (pos 2)
    ∷ at_least (minus 1) (pos 0) (pos 0) ∷ at_least (pos 0) (pos 1) (pos 0) ∷ at_least (pos 0) (minus 1) (pos 0)
    ∷ at_least (pos 1) (pos 0) (pos 3) ∷ at_least (minus 1) (pos 0) (pos 1) ∷ at_least (pos 0) (pos 1) (pos 1)
    ∷ at_least (pos 0) (minus 1) (pos 2) ∷ at_least (minus 1) (pos 0) (minus 2) ∷ []) ∷ (zero (minus 1) (pos 0) (minus 2)
    ∷ at_least (pos 1) (pos 0) (pos 2) ∷ at_least (minus 1) (pos 0) (minus 2) ∷ at_least (pos 0) (pos 1) (pos 0)
    ∷ at_least (pos 0) (minus 1) (pos 1) ∷ at_least (pos 1) (pos 0) (pos 3) ∷ at_least (minus 1) (pos 0) (pos 1)
    ∷ at_least (pos 0) (pos 1) (pos 1) ∷ at_least (pos 0) (minus 1) (pos 2) ∷ []) ∷ []) ∷ []
unfolding feature_at envelope_of has_point parts_allow pair_allows parts_of shadow_of flat_by with_bound pair_by is_above
polygon_must_not_have_gaps_1 = refl

-- 3 of: 1 POLYGON ((1 -2, 0 -2, 0 2, 1 2, 1 -2)); 1 POLYGON ((-2 -2, 0 -2, 0 2, -2 2, -2 -2)); 1 POLYGON ((1 1, -1 1, -1 0, 1 0, 1
-- 1))
abbrev map_polygon_must_not_have_gaps_2 : List Feature
map_polygon_must_not_have_gaps_2 =
    polygon 1 1 (((at (pos 1) (minus 2) ∷ at (pos 0) (minus 2) ∷ at (pos 0) (pos 2) ∷ at (pos 1) (pos 2) ∷ []) ∷ []) ∷ [])
    ∷ polygon 2 1 (((at (minus 2) (minus 2) ∷ at (pos 0) (minus 2) ∷ at (pos 0) (pos 2) ∷ at (minus 2) (pos 2) ∷ []) ∷ []) ∷ [])
    ∷ polygon 3 1 (((at (pos 1) (pos 1) ∷ at (minus 1) (pos 1) ∷ at (minus 1) (pos 0) ∷ at (pos 1) (pos 0) ∷ []) ∷ []) ∷ [])
    ∷ []

polygon_must_not_have_gaps_2 : cut rule.PolygonMustNotHaveGaps 1 0 map_polygon_must_not_have_gaps_2 3
    ≡ found 0 ((zero (pos 0) (pos 2) (minus 2) ∷ at_least (pos 1) (pos 0) (pos 1) ∷ at_least (minus 1) (pos 0) (pos 1)
    ∷ at_least (pos 0) (pos 1) (minus 1) ∷ at_least (pos 0) (minus 1) (pos 1) ∷ at_least (pos 1) (pos 0) (pos 2)
    ∷ at_least (minus 1) (pos 0) (pos 2) ∷ at_least (pos 0) (pos 1) (pos 1) ∷ at_least (pos 0) (minus 1) (pos 2)
    ∷ at_least (pos 1) (pos 0) (minus 1) ∷ at_least (pos 1) (pos 0) (pos 0) ∷ []) ∷ (zero (pos 0) (pos 2) (pos 0)
    ∷ at_least (pos 1) (pos 0) (pos 1) ∷ at_least (minus 1) (pos 0) (pos 1) ∷ at_least (pos 0) (pos 1) (pos 0)
    ∷ at_least (pos 0) (minus 1) (pos 0) ∷ at_least (pos 1) (pos 0) (pos 2) ∷ at_least (minus 1) (pos 0) (pos 2)
    ∷ at_least (pos 0) (pos 1) (pos 1) ∷ at_least (pos 0) (minus 1) (pos 2) ∷ at_least (pos 1) (pos 0) (minus 1)
    ∷ at_least (pos 1) (pos 0) (pos 0) ∷ []) ∷ (zero (minus 1) (pos 0) (pos 1) ∷ at_least (pos 1) (pos 0) (minus 1)
    ∷ at_least (minus 1) (pos 0) (pos 1) ∷ at_least (pos 0) (pos 1) (pos 0) ∷ at_least (pos 0) (minus 1) (pos 1)
    ∷ at_least (pos 1) (pos 0) (pos 2) ∷ at_least (minus 1) (pos 0) (pos 2) ∷ at_least (pos 0) (pos 1) (pos 1)
    ∷ at_least (pos 0) (minus 1) (pos 2) ∷ at_least (pos 1) (pos 0) (pos 0) ∷ []) ∷ []) ∷ []
unfolding feature_at envelope_of has_point parts_allow pair_allows parts_of shadow_of flat_by with_bound pair_by is_above
polygon_must_not_have_gaps_2 = refl

-- 2 of: 1 POLYGON ((1 0, -1 0, -1 3, 1 3, 1 0)); 1 POLYGON ((-1 2, 1 2, 1 1, -1 1, -1 2))
abbrev map_polygon_must_not_have_gaps_3 : List Feature
map_polygon_must_not_have_gaps_3 =
    polygon 1 1 (((at (pos 1) (pos 0) ∷ at (minus 1) (pos 0) ∷ at (minus 1) (pos 3) ∷ at (pos 1) (pos 3) ∷ []) ∷ []) ∷ [])
    ∷ polygon 2 1 (((at (minus 1) (pos 2) ∷ at (pos 1) (pos 2) ∷ at (pos 1) (pos 1) ∷ at (minus 1) (pos 1) ∷ []) ∷ []) ∷ [])
    ∷ []

polygon_must_not_have_gaps_3 : cut rule.PolygonMustNotHaveGaps 1 0 map_polygon_must_not_have_gaps_3 2
    ≡ found 0 ((zero (pos 0) (pos 2) (minus 4) ∷ at_least (pos 1) (pos 0) (pos 1) ∷ at_least (minus 1) (pos 0) (pos 1)
    ∷ at_least (pos 0) (pos 1) (minus 2) ∷ at_least (pos 0) (minus 1) (pos 2) ∷ at_least (pos 1) (pos 0) (pos 2)
    ∷ at_least (minus 1) (pos 0) (pos 2) ∷ at_least (pos 0) (pos 1) (pos 0) ∷ at_least (pos 0) (minus 1) (pos 3)
    ∷ at_least (minus 1) (pos 0) (minus 1) ∷ []) ∷ (zero (pos 0) (pos 2) (minus 4) ∷ at_least (pos 1) (pos 0) (pos 1)
    ∷ at_least (minus 1) (pos 0) (pos 1) ∷ at_least (pos 0) (pos 1) (minus 2) ∷ at_least (pos 0) (minus 1) (pos 2)
    ∷ at_least (pos 1) (pos 0) (pos 2) ∷ at_least (minus 1) (pos 0) (pos 2) ∷ at_least (pos 0) (pos 1) (pos 0)
    ∷ at_least (pos 0) (minus 1) (pos 3) ∷ at_least (pos 1) (pos 0) (minus 1) ∷ []) ∷ (zero (minus 1) (pos 0) (pos 1)
    ∷ at_least (pos 1) (pos 0) (minus 1) ∷ at_least (minus 1) (pos 0) (pos 1) ∷ at_least (pos 0) (pos 1) (minus 1)
    ∷ at_least (pos 0) (minus 1) (pos 2) ∷ at_least (pos 1) (pos 0) (pos 2) ∷ at_least (minus 1) (pos 0) (pos 2)
    ∷ at_least (pos 0) (pos 1) (pos 0) ∷ at_least (pos 0) (minus 1) (pos 3) ∷ []) ∷ (zero (pos 0) (pos 2) (minus 2)
    ∷ at_least (pos 1) (pos 0) (pos 1) ∷ at_least (minus 1) (pos 0) (pos 1) ∷ at_least (pos 0) (pos 1) (minus 1)
    ∷ at_least (pos 0) (minus 1) (pos 1) ∷ at_least (pos 1) (pos 0) (pos 2) ∷ at_least (minus 1) (pos 0) (pos 2)
    ∷ at_least (pos 0) (pos 1) (pos 0) ∷ at_least (pos 0) (minus 1) (pos 3) ∷ at_least (minus 1) (pos 0) (minus 1) ∷ [])
    ∷ (zero (pos 0) (pos 2) (minus 2) ∷ at_least (pos 1) (pos 0) (pos 1) ∷ at_least (minus 1) (pos 0) (pos 1)
    ∷ at_least (pos 0) (pos 1) (minus 1) ∷ at_least (pos 0) (minus 1) (pos 1) ∷ at_least (pos 1) (pos 0) (pos 2)
    ∷ at_least (minus 1) (pos 0) (pos 2) ∷ at_least (pos 0) (pos 1) (pos 0) ∷ at_least (pos 0) (minus 1) (pos 3)
    ∷ at_least (pos 1) (pos 0) (minus 1) ∷ []) ∷ (zero (minus 1) (pos 0) (minus 1) ∷ at_least (pos 1) (pos 0) (pos 1)
    ∷ at_least (minus 1) (pos 0) (minus 1) ∷ at_least (pos 0) (pos 1) (minus 1) ∷ at_least (pos 0) (minus 1) (pos 2)
    ∷ at_least (pos 1) (pos 0) (pos 2) ∷ at_least (minus 1) (pos 0) (pos 2) ∷ at_least (pos 0) (pos 1) (pos 0)
    ∷ at_least (pos 0) (minus 1) (pos 3) ∷ []) ∷ []) ∷ []
unfolding feature_at envelope_of has_point parts_allow pair_allows parts_of shadow_of flat_by with_bound pair_by is_above
polygon_must_not_have_gaps_3 = refl

-- 1 of: 1 POLYGON ((-2 2, -3 3, -2 -1, -2 2)); 1 POLYGON ((-1 -2, -3 -2, -3 3, -1 3, -1 -2))
abbrev map_polygon_must_not_have_gaps_4 : List Feature
map_polygon_must_not_have_gaps_4 =
    polygon 1 1 (((at (minus 2) (pos 2) ∷ at (minus 3) (pos 3) ∷ at (minus 2) (minus 1) ∷ []) ∷ []) ∷ [])
    ∷ polygon 2 1 (((at (minus 1) (minus 2) ∷ at (minus 3) (minus 2) ∷ at (minus 3) (pos 3) ∷ at (minus 1) (pos 3) ∷ []) ∷ []) ∷ [])
    ∷ []

polygon_must_not_have_gaps_4 : cut rule.PolygonMustNotHaveGaps 1 0 map_polygon_must_not_have_gaps_4 1
    ≡ found 0 ((zero (pos 1) (pos 1) (pos 0) ∷ at_least (pos 1) (pos 0) (pos 3) ∷ at_least (minus 1) (pos 0) (minus 2)
    ∷ at_least (pos 0) (pos 1) (minus 2) ∷ at_least (pos 0) (minus 1) (pos 3) ∷ at_least (pos 1) (pos 0) (pos 4)
    ∷ at_least (minus 1) (pos 0) (minus 1) ∷ at_least (pos 0) (pos 1) (pos 2) ∷ at_least (pos 0) (minus 1) (pos 4)
    ∷ at_least (minus 1) (pos 0) (minus 3) ∷ []) ∷ (zero (pos 1) (pos 1) (pos 0) ∷ at_least (pos 1) (pos 0) (pos 3)
    ∷ at_least (minus 1) (pos 0) (minus 2) ∷ at_least (pos 0) (pos 1) (minus 2) ∷ at_least (pos 0) (minus 1) (pos 3)
    ∷ at_least (pos 1) (pos 0) (pos 4) ∷ at_least (minus 1) (pos 0) (minus 1) ∷ at_least (pos 0) (pos 1) (pos 2)
    ∷ at_least (pos 0) (minus 1) (pos 4) ∷ zero (pos 1) (pos 0) (pos 3) ∷ at_least (pos 1) (pos 1) (pos 0)
    ∷ at_least (pos 0) (pos 1) (minus 3) ∷ at_least (pos 0) (pos 2) (minus 6) ∷ []) ∷ (zero (pos 1) (pos 1) (pos 0)
    ∷ at_least (pos 1) (pos 0) (pos 3) ∷ at_least (minus 1) (pos 0) (minus 2) ∷ at_least (pos 0) (pos 1) (minus 2)
    ∷ at_least (pos 0) (minus 1) (pos 3) ∷ at_least (pos 1) (pos 0) (pos 4) ∷ at_least (minus 1) (pos 0) (minus 1)
    ∷ at_least (pos 0) (pos 1) (pos 2) ∷ at_least (pos 0) (minus 1) (pos 4) ∷ at_least (pos 1) (pos 1) (pos 0)
    ∷ at_least (pos 0) (pos 2) (minus 6) ∷ []) ∷ (zero (pos 4) (pos 1) (pos 9) ∷ at_least (pos 1) (pos 0) (pos 3)
    ∷ at_least (minus 1) (pos 0) (minus 2) ∷ at_least (pos 0) (pos 1) (pos 1) ∷ at_least (pos 0) (minus 1) (pos 3)
    ∷ at_least (pos 1) (pos 0) (pos 4) ∷ at_least (minus 1) (pos 0) (minus 1) ∷ at_least (pos 0) (pos 1) (pos 2)
    ∷ at_least (pos 0) (minus 1) (pos 4) ∷ at_least (minus 1) (pos 0) (minus 3) ∷ []) ∷ (zero (pos 4) (pos 1) (pos 9)
    ∷ at_least (pos 1) (pos 0) (pos 3) ∷ at_least (minus 1) (pos 0) (minus 2) ∷ at_least (pos 0) (pos 1) (pos 1)
    ∷ at_least (pos 0) (minus 1) (pos 3) ∷ at_least (pos 1) (pos 0) (pos 4) ∷ at_least (minus 1) (pos 0) (minus 1)
    ∷ at_least (pos 0) (pos 1) (pos 2) ∷ at_least (pos 0) (minus 1) (pos 4) ∷ zero (pos 1) (pos 0) (pos 3)
    ∷ at_least (pos 1) (pos 1) (pos 0) ∷ at_least (pos 0) (pos 1) (minus 3) ∷ at_least (pos 0) (pos 2) (minus 6) ∷ [])
    ∷ (zero (pos 4) (pos 1) (pos 9) ∷ at_least (pos 1) (pos 0) (pos 3) ∷ at_least (minus 1) (pos 0) (minus 2)
    ∷ at_least (pos 0) (pos 1) (pos 1) ∷ at_least (pos 0) (minus 1) (pos 3) ∷ at_least (pos 1) (pos 0) (pos 4)
    ∷ at_least (minus 1) (pos 0) (minus 1) ∷ at_least (pos 0) (pos 1) (pos 2) ∷ at_least (pos 0) (minus 1) (pos 4)
    ∷ at_least (pos 1) (pos 1) (pos 0) ∷ at_least (pos 0) (pos 2) (minus 6) ∷ []) ∷ []) ∷ []
unfolding feature_at envelope_of has_point parts_allow pair_allows parts_of shadow_of flat_by with_bound pair_by is_above
polygon_must_not_have_gaps_4 = refl

-- 1 of: 1 POLYGON ((1 1, 0 1, 0 2, 1 2, 1 1))
abbrev map_polygon_must_be_covered_by_feature_class_of_1 : List Feature
map_polygon_must_be_covered_by_feature_class_of_1 =
    polygon 1 1 (((at (pos 1) (pos 1) ∷ at (pos 0) (pos 1) ∷ at (pos 0) (pos 2) ∷ at (pos 1) (pos 2) ∷ []) ∷ []) ∷ [])
    ∷ []

polygon_must_be_covered_by_feature_class_of_1 : cut rule.PolygonMustBeCoveredByFeatureClassOf 1 2
    map_polygon_must_be_covered_by_feature_class_of_1 1
    ≡ found 0 ((over (pos 1) (pos 0) (pos 0) ∷ over (minus 1) (pos 0) (pos 1) ∷ over (pos 0) (pos 1) (minus 1)
    ∷ over (pos 0) (minus 1) (pos 2) ∷ []) ∷ []) ∷ []
unfolding feature_at envelope_of has_point parts_allow pair_allows parts_of shadow_of flat_by with_bound pair_by is_above
polygon_must_be_covered_by_feature_class_of_1 = refl

-- 1 of: 1 POLYGON ((0 -1, -1 0, -1 -2, 2 -1, 0 -1), (-2 2, -2 1, -1 0, -2 2))
abbrev map_polygon_must_be_covered_by_feature_class_of_2 : List Feature
map_polygon_must_be_covered_by_feature_class_of_2 =
    polygon 1 1 (((at (pos 0) (minus 1) ∷ at (minus 1) (pos 0) ∷ at (minus 1) (minus 2) ∷ at (pos 2) (minus 1) ∷ [])
    ∷ (at (minus 2) (pos 2) ∷ at (minus 2) (pos 1) ∷ at (minus 1) (pos 0) ∷ []) ∷ []) ∷ [])
    ∷ []

polygon_must_be_covered_by_feature_class_of_2 : cut rule.PolygonMustBeCoveredByFeatureClassOf 1 2
    map_polygon_must_be_covered_by_feature_class_of_2 1
    ≡ found 0 ((over (pos 1) (pos 0) (pos 2) ∷ over (minus 1) (pos 0) (minus 1) ∷ over (pos 1) (pos 1) (pos 1)
    ∷ over (minus 2) (minus 1) (minus 2) ∷ []) ∷ (over (pos 1) (pos 0) (pos 1) ∷ over (minus 1) (pos 0) (pos 0)
    ∷ over (minus 1) (pos 3) (pos 5) ∷ over (minus 1) (minus 1) (minus 1) ∷ []) ∷ (zero (pos 1) (pos 0) (pos 0)
    ∷ over (minus 1) (pos 3) (pos 5) ∷ over (pos 0) (minus 2) (minus 2) ∷ over (pos 0) (minus 1) (minus 1) ∷ [])
    ∷ (over (pos 1) (pos 0) (pos 0) ∷ over (minus 1) (pos 0) (pos 2) ∷ over (minus 1) (pos 3) (pos 5)
    ∷ over (pos 0) (minus 2) (minus 2) ∷ []) ∷ []) ∷ []
unfolding feature_at envelope_of has_point parts_allow pair_allows parts_of shadow_of flat_by with_bound pair_by is_above
polygon_must_be_covered_by_feature_class_of_2 = refl

-- 2 of: 1 POLYGON ((-2 0, 0 2, 2 0, 2 4, 0 2, -2 4, -2 0)); 1 POLYGON ((2 -2, 0 -2, 0 -1, 2 -1, 2 -2)); 2 POLYGON ((0 -2, 1 -1, 1
-- 0, 0 -2)); 1 POLYGON ((-1 -2, 2 2, 0 2, -1 -2))
abbrev map_polygon_must_be_covered_by_feature_class_of_3 : List Feature
map_polygon_must_be_covered_by_feature_class_of_3 =
    polygon 1 1 (((at (minus 2) (pos 0) ∷ at (pos 0) (pos 2) ∷ at (pos 2) (pos 0) ∷ at (pos 2) (pos 4) ∷ at (pos 0) (pos 2)
    ∷ at (minus 2) (pos 4) ∷ []) ∷ []) ∷ [])
    ∷ polygon 2 1 (((at (pos 2) (minus 2) ∷ at (pos 0) (minus 2) ∷ at (pos 0) (minus 1) ∷ at (pos 2) (minus 1) ∷ []) ∷ []) ∷ [])
    ∷ polygon 3 2 (((at (pos 0) (minus 2) ∷ at (pos 1) (minus 1) ∷ at (pos 1) (pos 0) ∷ []) ∷ []) ∷ [])
    ∷ polygon 4 1 (((at (minus 1) (minus 2) ∷ at (pos 2) (pos 2) ∷ at (pos 0) (pos 2) ∷ []) ∷ []) ∷ [])
    ∷ []

polygon_must_be_covered_by_feature_class_of_3 : cut rule.PolygonMustBeCoveredByFeatureClassOf 1 2
    map_polygon_must_be_covered_by_feature_class_of_3 2
    ≡ found 0 ((over (pos 1) (pos 0) (pos 0) ∷ over (minus 1) (pos 0) (pos 2) ∷ over (pos 0) (pos 2) (pos 4)
    ∷ over (pos 0) (minus 2) (minus 2) ∷ over (minus 1) (pos 0) (pos 1) ∷ over (pos 1) (minus 1) (minus 2) ∷ [])
    ∷ (over (pos 1) (pos 0) (pos 0) ∷ over (minus 1) (pos 0) (pos 2) ∷ over (pos 0) (pos 2) (pos 4) ∷ over (pos 0) (minus 2) (minus 2)
    ∷ over (minus 1) (pos 0) (pos 1) ∷ over (minus 2) (pos 1) (pos 2) ∷ []) ∷ (over (pos 1) (pos 0) (pos 0)
    ∷ over (minus 1) (pos 0) (pos 2) ∷ over (pos 0) (pos 2) (pos 4) ∷ over (pos 0) (minus 2) (minus 2)
    ∷ zero (pos 1) (pos 0) (minus 1) ∷ over (pos 0) (minus 1) (minus 1) ∷ []) ∷ (over (pos 1) (pos 0) (pos 0)
    ∷ over (minus 1) (pos 0) (pos 2) ∷ over (pos 0) (pos 2) (pos 4) ∷ over (pos 0) (minus 2) (minus 2)
    ∷ over (pos 1) (pos 0) (minus 1) ∷ []) ∷ []) ∷ []
unfolding feature_at envelope_of has_point parts_allow pair_allows parts_of shadow_of flat_by with_bound pair_by is_above
polygon_must_be_covered_by_feature_class_of_3 = refl

-- 1 of: 1 POLYGON ((-1 1, 2 1, 2 -1, -1 -1, -1 1))
abbrev map_polygon_must_be_covered_by_feature_class_of_4 : List Feature
map_polygon_must_be_covered_by_feature_class_of_4 =
    polygon 1 1 (((at (minus 1) (pos 1) ∷ at (pos 2) (pos 1) ∷ at (pos 2) (minus 1) ∷ at (minus 1) (minus 1) ∷ []) ∷ []) ∷ [])
    ∷ []

polygon_must_be_covered_by_feature_class_of_4 : cut rule.PolygonMustBeCoveredByFeatureClassOf 1 2
    map_polygon_must_be_covered_by_feature_class_of_4 1
    ≡ found 0 ((over (pos 1) (pos 0) (pos 1) ∷ over (minus 1) (pos 0) (pos 2) ∷ over (pos 0) (pos 3) (pos 3)
    ∷ over (pos 0) (minus 3) (pos 3) ∷ []) ∷ []) ∷ []
unfolding feature_at envelope_of has_point parts_allow pair_allows parts_of shadow_of flat_by with_bound pair_by is_above
polygon_must_be_covered_by_feature_class_of_4 = refl

-- 1 of: 1 POLYGON ((0 3, -1 3, -1 2, 0 2, 0 3)); 1 POLYGON ((-3 -2, 0 2, -3 2, -3 -2))
abbrev map_polygon_must_cover_each_other_1 : List Feature
map_polygon_must_cover_each_other_1 =
    polygon 1 1 (((at (pos 0) (pos 3) ∷ at (minus 1) (pos 3) ∷ at (minus 1) (pos 2) ∷ at (pos 0) (pos 2) ∷ []) ∷ []) ∷ [])
    ∷ polygon 2 1 (((at (minus 3) (minus 2) ∷ at (pos 0) (pos 2) ∷ at (minus 3) (pos 2) ∷ []) ∷ []) ∷ [])
    ∷ []

polygon_must_cover_each_other_1 : cut rule.PolygonMustCoverEachOther 1 2 map_polygon_must_cover_each_other_1 1
    ≡ found 0 ((over (pos 1) (pos 0) (pos 1) ∷ over (minus 1) (pos 0) (pos 0) ∷ over (pos 0) (pos 1) (minus 2)
    ∷ over (pos 0) (minus 1) (pos 3) ∷ []) ∷ []) ∷ []
unfolding feature_at envelope_of has_point parts_allow pair_allows parts_of shadow_of flat_by with_bound pair_by is_above
polygon_must_cover_each_other_1 = refl

-- 3 of: 1 POLYGON ((0 2, 3 2, 3 1, 0 1, 0 2)); 2 POLYGON ((1 -1, 2 0, 1 1, 1 -1)); 1 POLYGON ((1 -1, 3 -1, 3 -3, 1 -3, 1 -1))
abbrev map_polygon_must_cover_each_other_2 : List Feature
map_polygon_must_cover_each_other_2 =
    polygon 1 1 (((at (pos 0) (pos 2) ∷ at (pos 3) (pos 2) ∷ at (pos 3) (pos 1) ∷ at (pos 0) (pos 1) ∷ []) ∷ []) ∷ [])
    ∷ polygon 2 2 (((at (pos 1) (minus 1) ∷ at (pos 2) (pos 0) ∷ at (pos 1) (pos 1) ∷ []) ∷ []) ∷ [])
    ∷ polygon 3 1 (((at (pos 1) (minus 1) ∷ at (pos 3) (minus 1) ∷ at (pos 3) (minus 3) ∷ at (pos 1) (minus 3) ∷ []) ∷ []) ∷ [])
    ∷ []

polygon_must_cover_each_other_2 : cut rule.PolygonMustCoverEachOther 1 2 map_polygon_must_cover_each_other_2 3
    ≡ found 0 ((over (pos 1) (pos 0) (minus 1) ∷ over (minus 1) (pos 0) (pos 3) ∷ over (pos 0) (pos 2) (pos 6)
    ∷ over (pos 0) (minus 2) (minus 2) ∷ over (minus 1) (pos 0) (pos 2) ∷ over (pos 1) (minus 1) (minus 2) ∷ [])
    ∷ (over (pos 1) (pos 0) (minus 1) ∷ over (minus 1) (pos 0) (pos 3) ∷ over (pos 0) (pos 2) (pos 6)
    ∷ over (pos 0) (minus 2) (minus 2) ∷ zero (pos 1) (pos 0) (minus 2) ∷ over (pos 0) (minus 1) (pos 0) ∷ [])
    ∷ (over (pos 1) (pos 0) (minus 1) ∷ over (minus 1) (pos 0) (pos 3) ∷ over (pos 0) (pos 2) (pos 6)
    ∷ over (pos 0) (minus 2) (minus 2) ∷ over (pos 1) (pos 0) (minus 2) ∷ []) ∷ []) ∷ []
unfolding feature_at envelope_of has_point parts_allow pair_allows parts_of shadow_of flat_by with_bound pair_by is_above
polygon_must_cover_each_other_2 = refl

-- 3 of: 1 POLYGON ((1 -1, 2 0, 0 0, 1 -1)); 2 POLYGON ((1 2, -1 2, -1 -1, 1 -1, 1 2)); 2 POLYGON ((1 0, -1 0, -1 -1, 1 -1, 1 0))
abbrev map_polygon_must_cover_each_other_3 : List Feature
map_polygon_must_cover_each_other_3 =
    polygon 1 1 (((at (pos 1) (minus 1) ∷ at (pos 2) (pos 0) ∷ at (pos 0) (pos 0) ∷ []) ∷ []) ∷ [])
    ∷ polygon 2 2 (((at (pos 1) (pos 2) ∷ at (minus 1) (pos 2) ∷ at (minus 1) (minus 1) ∷ at (pos 1) (minus 1) ∷ []) ∷ []) ∷ [])
    ∷ polygon 3 2 (((at (pos 1) (pos 0) ∷ at (minus 1) (pos 0) ∷ at (minus 1) (minus 1) ∷ at (pos 1) (minus 1) ∷ []) ∷ []) ∷ [])
    ∷ []

polygon_must_cover_each_other_3 : cut rule.PolygonMustCoverEachOther 1 2 map_polygon_must_cover_each_other_3 3
    ≡ found 0 ((over (pos 1) (pos 0) (pos 1) ∷ over (minus 1) (pos 0) (pos 1) ∷ over (pos 0) (pos 2) (pos 2)
    ∷ over (pos 0) (minus 2) (pos 0) ∷ over (minus 1) (pos 0) (pos 0) ∷ []) ∷ (over (pos 1) (pos 0) (pos 1)
    ∷ over (minus 1) (pos 0) (pos 1) ∷ over (pos 0) (pos 2) (pos 2) ∷ over (pos 0) (minus 2) (pos 0) ∷ zero (pos 1) (pos 0) (pos 0)
    ∷ over (minus 1) (minus 1) (pos 0) ∷ over (pos 0) (minus 1) (pos 0) ∷ []) ∷ (over (pos 1) (pos 0) (pos 1)
    ∷ over (minus 1) (pos 0) (pos 1) ∷ over (pos 0) (pos 2) (pos 2) ∷ over (pos 0) (minus 2) (pos 0) ∷ over (pos 1) (pos 0) (pos 0)
    ∷ over (minus 1) (minus 1) (pos 0) ∷ []) ∷ []) ∷ []
unfolding feature_at envelope_of has_point parts_allow pair_allows parts_of shadow_of flat_by with_bound pair_by is_above
polygon_must_cover_each_other_3 = refl

-- 1 of: 1 POLYGON ((2 2, 3 2, 3 -2, 2 -2, 2 2)); 1 POLYGON ((1 -3, 2 -3, 2 2, 1 2, 1 -3))
abbrev map_polygon_must_cover_each_other_4 : List Feature
map_polygon_must_cover_each_other_4 =
    polygon 1 1 (((at (pos 2) (pos 2) ∷ at (pos 3) (pos 2) ∷ at (pos 3) (minus 2) ∷ at (pos 2) (minus 2) ∷ []) ∷ []) ∷ [])
    ∷ polygon 2 1 (((at (pos 1) (minus 3) ∷ at (pos 2) (minus 3) ∷ at (pos 2) (pos 2) ∷ at (pos 1) (pos 2) ∷ []) ∷ []) ∷ [])
    ∷ []

polygon_must_cover_each_other_4 : cut rule.PolygonMustCoverEachOther 1 2 map_polygon_must_cover_each_other_4 1
    ≡ found 0 ((over (pos 1) (pos 0) (minus 2) ∷ over (minus 1) (pos 0) (pos 3) ∷ over (pos 0) (pos 1) (pos 2)
    ∷ over (pos 0) (minus 1) (pos 2) ∷ []) ∷ []) ∷ []
unfolding feature_at envelope_of has_point parts_allow pair_allows parts_of shadow_of flat_by with_bound pair_by is_above
polygon_must_cover_each_other_4 = refl

-- 2 of: 1 POLYGON ((2 3, 0 3, 0 -1, 2 -1, 2 3)); 1 POLYGON ((2 -3, -3 -3, 1 -2, 2 -3))
abbrev map_polygon_boundary_must_be_covered_by_1 : List Feature
map_polygon_boundary_must_be_covered_by_1 =
    polygon 1 1 (((at (pos 2) (pos 3) ∷ at (pos 0) (pos 3) ∷ at (pos 0) (minus 1) ∷ at (pos 2) (minus 1) ∷ []) ∷ []) ∷ [])
    ∷ polygon 2 1 (((at (pos 2) (minus 3) ∷ at (minus 3) (minus 3) ∷ at (pos 1) (minus 2) ∷ []) ∷ []) ∷ [])
    ∷ []

polygon_boundary_must_be_covered_by_1 : cut rule.PolygonBoundaryMustBeCoveredBy 1 2 map_polygon_boundary_must_be_covered_by_1 2
    ≡ found 0 ((zero (pos 0) (pos 5) (pos 15) ∷ at_least (pos 1) (pos 0) (pos 3) ∷ at_least (minus 1) (pos 0) (pos 2)
    ∷ at_least (pos 0) (pos 1) (pos 3) ∷ at_least (pos 0) (minus 1) (minus 3) ∷ []) ∷ (zero (minus 1) (pos 4) (pos 9)
    ∷ at_least (pos 1) (pos 0) (pos 3) ∷ at_least (minus 1) (pos 0) (pos 1) ∷ at_least (pos 0) (pos 1) (pos 3)
    ∷ at_least (pos 0) (minus 1) (minus 2) ∷ []) ∷ (zero (pos 1) (pos 1) (pos 1) ∷ at_least (pos 1) (pos 0) (minus 1)
    ∷ at_least (minus 1) (pos 0) (pos 2) ∷ at_least (pos 0) (pos 1) (pos 3) ∷ at_least (pos 0) (minus 1) (minus 2) ∷ []) ∷ []) ∷ []
unfolding feature_at envelope_of has_point parts_allow pair_allows parts_of shadow_of flat_by with_bound pair_by is_above
polygon_boundary_must_be_covered_by_1 = refl

-- 1 of: 1 POLYGON ((-1 -2, 2 1, 0 -2, -1 -2), (-2 -2, -3 -2, 2 -3, -2 -2))
abbrev map_polygon_boundary_must_be_covered_by_2 : List Feature
map_polygon_boundary_must_be_covered_by_2 =
    polygon 1 1 (((at (minus 1) (minus 2) ∷ at (pos 2) (pos 1) ∷ at (pos 0) (minus 2) ∷ []) ∷ (at (minus 2) (minus 2)
    ∷ at (minus 3) (minus 2) ∷ at (pos 2) (minus 3) ∷ []) ∷ []) ∷ [])
    ∷ []

polygon_boundary_must_be_covered_by_2 : cut rule.PolygonBoundaryMustBeCoveredBy 1 2 map_polygon_boundary_must_be_covered_by_2 1
    ≡ found 0 ((zero (minus 3) (pos 3) (pos 3) ∷ at_least (pos 1) (pos 0) (pos 1) ∷ at_least (minus 1) (pos 0) (pos 2)
    ∷ at_least (pos 0) (pos 1) (pos 2) ∷ at_least (pos 0) (minus 1) (pos 1) ∷ []) ∷ (zero (minus 3) (pos 2) (pos 4)
    ∷ at_least (pos 1) (pos 0) (pos 0) ∷ at_least (minus 1) (pos 0) (pos 2) ∷ at_least (pos 0) (pos 1) (pos 2)
    ∷ at_least (pos 0) (minus 1) (pos 1) ∷ []) ∷ (zero (pos 0) (pos 1) (pos 2) ∷ at_least (pos 1) (pos 0) (pos 1)
    ∷ at_least (minus 1) (pos 0) (pos 0) ∷ at_least (pos 0) (pos 1) (pos 2) ∷ at_least (pos 0) (minus 1) (minus 2) ∷ [])
    ∷ (zero (pos 0) (pos 1) (pos 2) ∷ at_least (pos 1) (pos 0) (pos 3) ∷ at_least (minus 1) (pos 0) (minus 2)
    ∷ at_least (pos 0) (pos 1) (pos 2) ∷ at_least (pos 0) (minus 1) (minus 2) ∷ []) ∷ (zero (pos 1) (pos 5) (pos 13)
    ∷ at_least (pos 1) (pos 0) (pos 3) ∷ at_least (minus 1) (pos 0) (pos 2) ∷ at_least (pos 0) (pos 1) (pos 3)
    ∷ at_least (pos 0) (minus 1) (minus 2) ∷ []) ∷ (zero (pos 1) (pos 4) (pos 10) ∷ at_least (pos 1) (pos 0) (pos 2)
    ∷ at_least (minus 1) (pos 0) (pos 2) ∷ at_least (pos 0) (pos 1) (pos 3) ∷ at_least (pos 0) (minus 1) (minus 2) ∷ []) ∷ []) ∷ []
unfolding feature_at envelope_of has_point parts_allow pair_allows parts_of shadow_of flat_by with_bound pair_by is_above
polygon_boundary_must_be_covered_by_2 = refl

-- 1 of: 1 POLYGON ((2 -1, 2 2, -2 -1, 0 -1, 2 -1)); 2 LINESTRING (-1 0, 1 -2, 2 -1)
abbrev map_polygon_boundary_must_be_covered_by_3 : List Feature
map_polygon_boundary_must_be_covered_by_3 =
    polygon 1 1 (((at (pos 2) (minus 1) ∷ at (pos 2) (pos 2) ∷ at (minus 2) (minus 1) ∷ at (pos 0) (minus 1) ∷ []) ∷ []) ∷ [])
    ∷ line 2 2 ((at (minus 1) (pos 0) ∷ at (pos 1) (minus 2) ∷ at (pos 2) (minus 1) ∷ []) ∷ [])
    ∷ []

polygon_boundary_must_be_covered_by_3 : cut rule.PolygonBoundaryMustBeCoveredBy 1 2 map_polygon_boundary_must_be_covered_by_3 1
    ≡ found 0 ((zero (minus 3) (pos 0) (pos 6) ∷ at_least (pos 1) (pos 0) (minus 2) ∷ at_least (minus 1) (pos 0) (pos 2)
    ∷ at_least (pos 0) (pos 1) (pos 1) ∷ at_least (pos 0) (minus 1) (pos 2) ∷ over (minus 1) (pos 1) (pos 3) ∷ [])
    ∷ (zero (minus 3) (pos 4) (minus 2) ∷ at_least (pos 1) (pos 0) (pos 2) ∷ at_least (minus 1) (pos 0) (pos 2)
    ∷ at_least (pos 0) (pos 1) (pos 1) ∷ at_least (pos 0) (minus 1) (pos 2) ∷ over (pos 2) (pos 2) (pos 2)
    ∷ over (minus 1) (pos 1) (pos 3) ∷ []) ∷ (zero (minus 3) (pos 4) (minus 2) ∷ at_least (pos 1) (pos 0) (pos 2)
    ∷ at_least (minus 1) (pos 0) (pos 2) ∷ at_least (pos 0) (pos 1) (pos 1) ∷ at_least (pos 0) (minus 1) (pos 2)
    ∷ over (minus 2) (minus 2) (minus 2) ∷ over (minus 1) (pos 1) (pos 3) ∷ []) ∷ (zero (pos 0) (pos 2) (pos 2)
    ∷ at_least (pos 1) (pos 0) (pos 2) ∷ at_least (minus 1) (pos 0) (pos 0) ∷ at_least (pos 0) (pos 1) (pos 1)
    ∷ at_least (pos 0) (minus 1) (minus 1) ∷ over (minus 2) (minus 2) (minus 2) ∷ []) ∷ (zero (pos 0) (pos 2) (pos 2)
    ∷ at_least (pos 1) (pos 0) (pos 0) ∷ at_least (minus 1) (pos 0) (pos 2) ∷ at_least (pos 0) (pos 1) (pos 1)
    ∷ at_least (pos 0) (minus 1) (minus 1) ∷ over (pos 2) (pos 2) (pos 2) ∷ over (minus 1) (pos 1) (pos 3) ∷ []) ∷ []) ∷ []
unfolding feature_at envelope_of has_point parts_allow pair_allows parts_of shadow_of flat_by with_bound pair_by is_above
polygon_boundary_must_be_covered_by_3 = refl

-- 1 of: 1 POLYGON ((2 -2, -1 1, 3 -1, 2 -2)); 1 POLYGON ((1 0, 2 2, 2 -3, 3 0, 2 -2, 1 0))
abbrev map_polygon_boundary_must_be_covered_by_4 : List Feature
map_polygon_boundary_must_be_covered_by_4 =
    polygon 1 1 (((at (pos 2) (minus 2) ∷ at (minus 1) (pos 1) ∷ at (pos 3) (minus 1) ∷ []) ∷ []) ∷ [])
    ∷ polygon 2 1 (((at (pos 1) (pos 0) ∷ at (pos 2) (pos 2) ∷ at (pos 2) (minus 3) ∷ at (pos 3) (pos 0) ∷ at (pos 2) (minus 2) ∷ [])
    ∷ []) ∷ [])
    ∷ []

polygon_boundary_must_be_covered_by_4 : cut rule.PolygonBoundaryMustBeCoveredBy 1 2 map_polygon_boundary_must_be_covered_by_4 1
    ≡ found 0 ((zero (pos 3) (pos 3) (pos 0) ∷ at_least (pos 1) (pos 0) (pos 1) ∷ at_least (minus 1) (pos 0) (pos 2)
    ∷ at_least (pos 0) (pos 1) (pos 2) ∷ at_least (pos 0) (minus 1) (pos 1) ∷ []) ∷ (zero (pos 2) (pos 4) (minus 2)
    ∷ at_least (pos 1) (pos 0) (pos 1) ∷ at_least (minus 1) (pos 0) (pos 3) ∷ at_least (pos 0) (pos 1) (pos 1)
    ∷ at_least (pos 0) (minus 1) (pos 1) ∷ []) ∷ (zero (minus 1) (pos 1) (pos 4) ∷ at_least (pos 1) (pos 0) (minus 2)
    ∷ at_least (minus 1) (pos 0) (pos 3) ∷ at_least (pos 0) (pos 1) (pos 2) ∷ at_least (pos 0) (minus 1) (minus 1) ∷ []) ∷ []) ∷ []
unfolding feature_at envelope_of has_point parts_allow pair_allows parts_of shadow_of flat_by with_bound pair_by is_above
polygon_boundary_must_be_covered_by_4 = refl

-- 1 of: 1 POLYGON ((1 2, 1 -2, 0 0, 1 2))
abbrev map_polygon_area_boundary_must_be_covered_by_boundary_of_1 : List Feature
map_polygon_area_boundary_must_be_covered_by_boundary_of_1 =
    polygon 1 1 (((at (pos 1) (pos 2) ∷ at (pos 1) (minus 2) ∷ at (pos 0) (pos 0) ∷ []) ∷ []) ∷ [])
    ∷ []

polygon_area_boundary_must_be_covered_by_boundary_of_1 : cut rule.PolygonAreaBoundaryMustBeCoveredByBoundaryOf 1 2
    map_polygon_area_boundary_must_be_covered_by_boundary_of_1 1
    ≡ found 0 ((zero (minus 4) (pos 0) (pos 4) ∷ at_least (pos 1) (pos 0) (minus 1) ∷ at_least (minus 1) (pos 0) (pos 1)
    ∷ at_least (pos 0) (pos 1) (pos 2) ∷ at_least (pos 0) (minus 1) (pos 2) ∷ []) ∷ (zero (pos 2) (pos 1) (pos 0)
    ∷ at_least (pos 1) (pos 0) (pos 0) ∷ at_least (minus 1) (pos 0) (pos 1) ∷ at_least (pos 0) (pos 1) (pos 2)
    ∷ at_least (pos 0) (minus 1) (pos 0) ∷ []) ∷ (zero (minus 2) (pos 1) (pos 0) ∷ at_least (pos 1) (pos 0) (pos 0)
    ∷ at_least (minus 1) (pos 0) (pos 1) ∷ at_least (pos 0) (pos 1) (pos 0) ∷ at_least (pos 0) (minus 1) (pos 2) ∷ []) ∷ []) ∷ []
unfolding feature_at envelope_of has_point parts_allow pair_allows parts_of shadow_of flat_by with_bound pair_by is_above
polygon_area_boundary_must_be_covered_by_boundary_of_1 = refl

-- 2 of: 1 POLYGON ((0 2, 1 3, 2 2, 2 4, 1 3, 0 4, 0 2)); 1 POLYGON ((-2 2, 2 2, 2 -2, -2 -2, -2 2)); 2 POLYGON ((0 0, 0 -2, 1 0, 0
-- 0))
abbrev map_polygon_area_boundary_must_be_covered_by_boundary_of_2 : List Feature
map_polygon_area_boundary_must_be_covered_by_boundary_of_2 =
    polygon 1 1 (((at (pos 0) (pos 2) ∷ at (pos 1) (pos 3) ∷ at (pos 2) (pos 2) ∷ at (pos 2) (pos 4) ∷ at (pos 1) (pos 3)
    ∷ at (pos 0) (pos 4) ∷ []) ∷ []) ∷ [])
    ∷ polygon 2 1 (((at (minus 2) (pos 2) ∷ at (pos 2) (pos 2) ∷ at (pos 2) (minus 2) ∷ at (minus 2) (minus 2) ∷ []) ∷ []) ∷ [])
    ∷ polygon 3 2 (((at (pos 0) (pos 0) ∷ at (pos 0) (minus 2) ∷ at (pos 1) (pos 0) ∷ []) ∷ []) ∷ [])
    ∷ []

polygon_area_boundary_must_be_covered_by_boundary_of_2 : cut rule.PolygonAreaBoundaryMustBeCoveredByBoundaryOf 1 2
    map_polygon_area_boundary_must_be_covered_by_boundary_of_2 2
    ≡ found 0 ((zero (pos 0) (pos 4) (minus 8) ∷ at_least (pos 1) (pos 0) (pos 2) ∷ at_least (minus 1) (pos 0) (pos 2)
    ∷ at_least (pos 0) (pos 1) (minus 2) ∷ at_least (pos 0) (minus 1) (pos 2) ∷ []) ∷ (zero (minus 4) (pos 0) (pos 8)
    ∷ at_least (pos 1) (pos 0) (minus 2) ∷ at_least (minus 1) (pos 0) (pos 2) ∷ at_least (pos 0) (pos 1) (pos 2)
    ∷ at_least (pos 0) (minus 1) (pos 2) ∷ []) ∷ (zero (pos 0) (pos 4) (pos 8) ∷ at_least (pos 1) (pos 0) (pos 2)
    ∷ at_least (minus 1) (pos 0) (pos 2) ∷ at_least (pos 0) (pos 1) (pos 2) ∷ at_least (pos 0) (minus 1) (minus 2)
    ∷ over (minus 2) (pos 0) (pos 0) ∷ over (minus 2) (pos 1) (pos 2) ∷ []) ∷ (zero (pos 0) (pos 4) (pos 8)
    ∷ at_least (pos 1) (pos 0) (pos 2) ∷ at_least (minus 1) (pos 0) (pos 2) ∷ at_least (pos 0) (pos 1) (pos 2)
    ∷ at_least (pos 0) (minus 1) (minus 2) ∷ over (pos 2) (pos 0) (pos 0) ∷ over (pos 2) (minus 1) (minus 2) ∷ [])
    ∷ (zero (minus 4) (pos 0) (minus 8) ∷ at_least (pos 1) (pos 0) (pos 2) ∷ at_least (minus 1) (pos 0) (minus 2)
    ∷ at_least (pos 0) (pos 1) (pos 2) ∷ at_least (pos 0) (minus 1) (pos 2) ∷ []) ∷ []) ∷ []
unfolding feature_at envelope_of has_point parts_allow pair_allows parts_of shadow_of flat_by with_bound pair_by is_above
polygon_area_boundary_must_be_covered_by_boundary_of_2 = refl

-- 1 of: 1 POLYGON ((-2 2, 0 2, 0 0, -2 0, -2 2))
abbrev map_polygon_area_boundary_must_be_covered_by_boundary_of_3 : List Feature
map_polygon_area_boundary_must_be_covered_by_boundary_of_3 =
    polygon 1 1 (((at (minus 2) (pos 2) ∷ at (pos 0) (pos 2) ∷ at (pos 0) (pos 0) ∷ at (minus 2) (pos 0) ∷ []) ∷ []) ∷ [])
    ∷ []

polygon_area_boundary_must_be_covered_by_boundary_of_3 : cut rule.PolygonAreaBoundaryMustBeCoveredByBoundaryOf 1 2
    map_polygon_area_boundary_must_be_covered_by_boundary_of_3 1
    ≡ found 0 ((zero (pos 0) (pos 2) (minus 4) ∷ at_least (pos 1) (pos 0) (pos 2) ∷ at_least (minus 1) (pos 0) (pos 0)
    ∷ at_least (pos 0) (pos 1) (minus 2) ∷ at_least (pos 0) (minus 1) (pos 2) ∷ []) ∷ (zero (minus 2) (pos 0) (pos 0)
    ∷ at_least (pos 1) (pos 0) (pos 0) ∷ at_least (minus 1) (pos 0) (pos 0) ∷ at_least (pos 0) (pos 1) (pos 0)
    ∷ at_least (pos 0) (minus 1) (pos 2) ∷ []) ∷ (zero (pos 0) (pos 2) (pos 0) ∷ at_least (pos 1) (pos 0) (pos 2)
    ∷ at_least (minus 1) (pos 0) (pos 0) ∷ at_least (pos 0) (pos 1) (pos 0) ∷ at_least (pos 0) (minus 1) (pos 0) ∷ [])
    ∷ (zero (minus 2) (pos 0) (minus 4) ∷ at_least (pos 1) (pos 0) (pos 2) ∷ at_least (minus 1) (pos 0) (minus 2)
    ∷ at_least (pos 0) (pos 1) (pos 0) ∷ at_least (pos 0) (minus 1) (pos 2) ∷ []) ∷ []) ∷ []
unfolding feature_at envelope_of has_point parts_allow pair_allows parts_of shadow_of flat_by with_bound pair_by is_above
polygon_area_boundary_must_be_covered_by_boundary_of_3 = refl

-- 1 of: 1 POLYGON ((1 -1, -1 -1, -1 1, 1 1, 1 -1)); 2 POLYGON ((1 -1, -2 -1, -2 2, 1 2, 1 -1))
abbrev map_polygon_area_boundary_must_be_covered_by_boundary_of_4 : List Feature
map_polygon_area_boundary_must_be_covered_by_boundary_of_4 =
    polygon 1 1 (((at (pos 1) (minus 1) ∷ at (minus 1) (minus 1) ∷ at (minus 1) (pos 1) ∷ at (pos 1) (pos 1) ∷ []) ∷ []) ∷ [])
    ∷ polygon 2 2 (((at (pos 1) (minus 1) ∷ at (minus 2) (minus 1) ∷ at (minus 2) (pos 2) ∷ at (pos 1) (pos 2) ∷ []) ∷ []) ∷ [])
    ∷ []

polygon_area_boundary_must_be_covered_by_boundary_of_4 : cut rule.PolygonAreaBoundaryMustBeCoveredByBoundaryOf 1 2
    map_polygon_area_boundary_must_be_covered_by_boundary_of_4 1
    ≡ found 0 ((zero (minus 2) (pos 0) (minus 2) ∷ at_least (pos 1) (pos 0) (pos 1) ∷ at_least (minus 1) (pos 0) (minus 1)
    ∷ at_least (pos 0) (pos 1) (pos 1) ∷ at_least (pos 0) (minus 1) (pos 1) ∷ over (pos 0) (pos 3) (pos 3) ∷ [])
    ∷ (zero (pos 0) (pos 2) (minus 2) ∷ at_least (pos 1) (pos 0) (pos 1) ∷ at_least (minus 1) (pos 0) (pos 1)
    ∷ at_least (pos 0) (pos 1) (minus 1) ∷ at_least (pos 0) (minus 1) (pos 1) ∷ over (minus 3) (pos 0) (pos 3) ∷ []) ∷ []) ∷ []
unfolding feature_at envelope_of has_point parts_allow pair_allows parts_of shadow_of flat_by with_bound pair_by is_above
polygon_area_boundary_must_be_covered_by_boundary_of_4 = refl

-- 2 of: 1 POLYGON ((-1 -2, 2 -2, 2 -1, -1 -1, -1 -2)); 1 POLYGON ((0 0, 0 -2, -1 2, 0 0))
abbrev map_polygon_must_be_covered_by_1 : List Feature
map_polygon_must_be_covered_by_1 =
    polygon 1 1 (((at (minus 1) (minus 2) ∷ at (pos 2) (minus 2) ∷ at (pos 2) (minus 1) ∷ at (minus 1) (minus 1) ∷ []) ∷ []) ∷ [])
    ∷ polygon 2 1 (((at (pos 0) (pos 0) ∷ at (pos 0) (minus 2) ∷ at (minus 1) (pos 2) ∷ []) ∷ []) ∷ [])
    ∷ []

polygon_must_be_covered_by_1 : cut rule.PolygonMustBeCoveredBy 1 2 map_polygon_must_be_covered_by_1 2 ≡ whole ∷ []
unfolding feature_at envelope_of has_point parts_allow pair_allows parts_of shadow_of flat_by with_bound pair_by is_above
polygon_must_be_covered_by_1 = refl

-- 1 of: 1 POLYGON ((2 2, 3 3, 4 2, 4 4, 3 3, 2 4, 2 2)); 2 POLYGON ((-1 -1, -1 -2, 2 2, -1 -1))
abbrev map_polygon_must_be_covered_by_2 : List Feature
map_polygon_must_be_covered_by_2 =
    polygon 1 1 (((at (pos 2) (pos 2) ∷ at (pos 3) (pos 3) ∷ at (pos 4) (pos 2) ∷ at (pos 4) (pos 4) ∷ at (pos 3) (pos 3)
    ∷ at (pos 2) (pos 4) ∷ []) ∷ []) ∷ [])
    ∷ polygon 2 2 (((at (minus 1) (minus 1) ∷ at (minus 1) (minus 2) ∷ at (pos 2) (pos 2) ∷ []) ∷ []) ∷ [])
    ∷ []

polygon_must_be_covered_by_2 : cut rule.PolygonMustBeCoveredBy 1 2 map_polygon_must_be_covered_by_2 1 ≡ whole ∷ []
unfolding feature_at envelope_of has_point parts_allow pair_allows parts_of shadow_of flat_by with_bound pair_by is_above
polygon_must_be_covered_by_2 = refl

-- 2 of: 1 POLYGON ((1 2, 2 3, 3 2, 3 4, 2 3, 1 4, 1 2)); 1 POLYGON ((0 -1, 2 -1, 2 2, 0 2, 0 -1))
abbrev map_polygon_must_be_covered_by_3 : List Feature
map_polygon_must_be_covered_by_3 =
    polygon 1 1 (((at (pos 1) (pos 2) ∷ at (pos 2) (pos 3) ∷ at (pos 3) (pos 2) ∷ at (pos 3) (pos 4) ∷ at (pos 2) (pos 3)
    ∷ at (pos 1) (pos 4) ∷ []) ∷ []) ∷ [])
    ∷ polygon 2 1 (((at (pos 0) (minus 1) ∷ at (pos 2) (minus 1) ∷ at (pos 2) (pos 2) ∷ at (pos 0) (pos 2) ∷ []) ∷ []) ∷ [])
    ∷ []

polygon_must_be_covered_by_3 : cut rule.PolygonMustBeCoveredBy 1 2 map_polygon_must_be_covered_by_3 2 ≡ whole ∷ []
unfolding feature_at envelope_of has_point parts_allow pair_allows parts_of shadow_of flat_by with_bound pair_by is_above
polygon_must_be_covered_by_3 = refl

-- 1 of: 1 MULTIPOLYGON (((2 0, 0 0, 0 1, 2 1, 2 0)), ((-1 0, -2 0, -2 -2, -1 -2, -1 0))); 1 POLYGON ((-2 1, -1 1, -1 2, -2 2, -2
-- 1))
abbrev map_polygon_must_be_covered_by_4 : List Feature
map_polygon_must_be_covered_by_4 =
    polygon 1 1 (((at (pos 2) (pos 0) ∷ at (pos 0) (pos 0) ∷ at (pos 0) (pos 1) ∷ at (pos 2) (pos 1) ∷ []) ∷ []) ∷ ((at (minus 1) (pos 0)
    ∷ at (minus 2) (pos 0) ∷ at (minus 2) (minus 2) ∷ at (minus 1) (minus 2) ∷ []) ∷ []) ∷ [])
    ∷ polygon 2 1 (((at (minus 2) (pos 1) ∷ at (minus 1) (pos 1) ∷ at (minus 1) (pos 2) ∷ at (minus 2) (pos 2) ∷ []) ∷ []) ∷ [])
    ∷ []

polygon_must_be_covered_by_4 : cut rule.PolygonMustBeCoveredBy 1 2 map_polygon_must_be_covered_by_4 1 ≡ whole ∷ []
unfolding feature_at envelope_of has_point parts_allow pair_allows parts_of shadow_of flat_by with_bound pair_by is_above
polygon_must_be_covered_by_4 = refl

-- 1 of: 1 POLYGON ((-1 1, 0 1, 0 0, -1 0, -1 1))
abbrev map_polygon_contains_point_1 : List Feature
map_polygon_contains_point_1 =
    polygon 1 1 (((at (minus 1) (pos 1) ∷ at (pos 0) (pos 1) ∷ at (pos 0) (pos 0) ∷ at (minus 1) (pos 0) ∷ []) ∷ []) ∷ [])
    ∷ []

polygon_contains_point_1 : cut rule.PolygonContainsPoint 1 2 map_polygon_contains_point_1 1 ≡ whole ∷ []
unfolding feature_at envelope_of has_point parts_allow pair_allows parts_of shadow_of flat_by with_bound pair_by is_above
polygon_contains_point_1 = refl

-- 1 of: 1 POLYGON ((3 3, -3 3, -3 -2, 3 -2, 3 3)); 2 POINT (1 3)
abbrev map_polygon_contains_point_2 : List Feature
map_polygon_contains_point_2 =
    polygon 1 1 (((at (pos 3) (pos 3) ∷ at (minus 3) (pos 3) ∷ at (minus 3) (minus 2) ∷ at (pos 3) (minus 2) ∷ []) ∷ []) ∷ [])
    ∷ point 2 2 (at (pos 1) (pos 3))
    ∷ []

polygon_contains_point_2 : cut rule.PolygonContainsPoint 1 2 map_polygon_contains_point_2 1 ≡ whole ∷ []
unfolding feature_at envelope_of has_point parts_allow pair_allows parts_of shadow_of flat_by with_bound pair_by is_above
polygon_contains_point_2 = refl

-- 1 of: 1 POLYGON ((0 1, 2 1, 2 -1, 0 -1, 0 1)); 2 POINT (-1 1)
abbrev map_polygon_contains_point_3 : List Feature
map_polygon_contains_point_3 =
    polygon 1 1 (((at (pos 0) (pos 1) ∷ at (pos 2) (pos 1) ∷ at (pos 2) (minus 1) ∷ at (pos 0) (minus 1) ∷ []) ∷ []) ∷ [])
    ∷ point 2 2 (at (minus 1) (pos 1))
    ∷ []

polygon_contains_point_3 : cut rule.PolygonContainsPoint 1 2 map_polygon_contains_point_3 1 ≡ whole ∷ []
unfolding feature_at envelope_of has_point parts_allow pair_allows parts_of shadow_of flat_by with_bound pair_by is_above
polygon_contains_point_3 = refl

-- 1 of: 1 POLYGON ((2 1, 4 3, 6 1, 6 5, 4 3, 2 5, 2 1), (0 0, -1 0, -1 2, 0 2, 0 0))
abbrev map_polygon_contains_point_4 : List Feature
map_polygon_contains_point_4 =
    polygon 1 1 (((at (pos 2) (pos 1) ∷ at (pos 4) (pos 3) ∷ at (pos 6) (pos 1) ∷ at (pos 6) (pos 5) ∷ at (pos 4) (pos 3)
    ∷ at (pos 2) (pos 5) ∷ []) ∷ (at (pos 0) (pos 0) ∷ at (minus 1) (pos 0) ∷ at (minus 1) (pos 2) ∷ at (pos 0) (pos 2) ∷ []) ∷ [])
    ∷ [])
    ∷ []

polygon_contains_point_4 : cut rule.PolygonContainsPoint 1 2 map_polygon_contains_point_4 1 ≡ whole ∷ []
unfolding feature_at envelope_of has_point parts_allow pair_allows parts_of shadow_of flat_by with_bound pair_by is_above
polygon_contains_point_4 = refl

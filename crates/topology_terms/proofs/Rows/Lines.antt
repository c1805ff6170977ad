-- Cuttings of the rules on lines, on small maps, as an independent program cuts them: they fix the order and the form of the findings'
-- cells.
use Rattle.std.proofs.Common.{◌≡◌, pos, List, [], ◌∷◌, refl}
use Rattle.plane_terms.specs.Shape.{envelope_of}
use Rattle.plane_terms.specs.Decide.{has_point, parts_allow, pair_allows, parts_of, shadow_of, flat_by, with_bound, pair_by, is_above}
use Rattle.rule_words.specs.declared.rule_kind.RuleKind.TheVariants as rule
use Rattle.topology_terms.specs.Feature.{Feature, feature_at}
use Rattle.topology_terms.proofs.Rows.Maps.{minus, at, point, line, over, at_least, zero, found, whole, cut}

-- 1 of: 1 LINESTRING (0 -1, 0 2); 1 LINESTRING (0 -1, 0 2, -2 0)
abbrev map_line_must_not_overlap_1 : List Feature
map_line_must_not_overlap_1 =
    line 1 1 ((at (pos 0) (minus 1) ∷ at (pos 0) (pos 2) ∷ []) ∷ [])
    ∷ line 2 1 ((at (pos 0) (minus 1) ∷ at (pos 0) (pos 2) ∷ at (minus 2) (pos 0) ∷ []) ∷ [])
    ∷ []

line_must_not_overlap_1 : cut rule.LineMustNotOverlap 1 0 map_line_must_not_overlap_1 1
    ≡ found 2 ((zero (minus 3) (pos 0) (pos 0) ∷ at_least (pos 1) (pos 0) (pos 0) ∷ at_least (minus 1) (pos 0) (pos 0)
    ∷ at_least (pos 0) (pos 1) (pos 1) ∷ at_least (pos 0) (minus 1) (pos 2) ∷ []) ∷ []) ∷ []
unfolding feature_at envelope_of has_point parts_allow pair_allows parts_of shadow_of flat_by with_bound pair_by is_above
line_must_not_overlap_1 = refl

-- 1 of: 1 LINESTRING (0 3, 1 2, 0 3); 1 MULTILINESTRING ((1 2, 0 3, 1 2), (0 2, 1 2))
abbrev map_line_must_not_overlap_2 : List Feature
map_line_must_not_overlap_2 =
    line 1 1 ((at (pos 0) (pos 3) ∷ at (pos 1) (pos 2) ∷ at (pos 0) (pos 3) ∷ []) ∷ [])
    ∷ line 2 1 ((at (pos 1) (pos 2) ∷ at (pos 0) (pos 3) ∷ at (pos 1) (pos 2) ∷ []) ∷ (at (pos 0) (pos 2) ∷ at (pos 1) (pos 2) ∷ []) ∷ [])
    ∷ []

line_must_not_overlap_2 : cut rule.LineMustNotOverlap 1 0 map_line_must_not_overlap_2 1
    ≡ found 2 ((zero (pos 1) (pos 1) (minus 3) ∷ at_least (pos 1) (pos 0) (pos 0) ∷ at_least (minus 1) (pos 0) (pos 1)
    ∷ at_least (pos 0) (pos 1) (minus 2) ∷ at_least (pos 0) (minus 1) (pos 3) ∷ []) ∷ (zero (pos 1) (pos 1) (minus 3)
    ∷ at_least (pos 1) (pos 0) (pos 0) ∷ at_least (minus 1) (pos 0) (pos 1) ∷ at_least (pos 0) (pos 1) (minus 2)
    ∷ at_least (pos 0) (minus 1) (pos 3) ∷ []) ∷ (zero (pos 1) (pos 1) (minus 3) ∷ at_least (pos 1) (pos 0) (pos 0)
    ∷ at_least (minus 1) (pos 0) (pos 1) ∷ at_least (pos 0) (pos 1) (minus 2) ∷ at_least (pos 0) (minus 1) (pos 3) ∷ [])
    ∷ (zero (pos 1) (pos 1) (minus 3) ∷ at_least (pos 1) (pos 0) (pos 0) ∷ at_least (minus 1) (pos 0) (pos 1)
    ∷ at_least (pos 0) (pos 1) (minus 2) ∷ at_least (pos 0) (minus 1) (pos 3) ∷ []) ∷ []) ∷ []
unfolding feature_at envelope_of has_point parts_allow pair_allows parts_of shadow_of flat_by with_bound pair_by is_above
line_must_not_overlap_2 = refl

-- 1 of: 1 MULTILINESTRING ((2 1, 2 2, 2 1), (-1 0, 2 2)); 1 MULTILINESTRING ((2 1, 2 2), (2 2, 2 1))
abbrev map_line_must_not_overlap_3 : List Feature
map_line_must_not_overlap_3 =
    line 1 1 ((at (pos 2) (pos 1) ∷ at (pos 2) (pos 2) ∷ at (pos 2) (pos 1) ∷ []) ∷ (at (minus 1) (pos 0) ∷ at (pos 2) (pos 2) ∷ []) ∷ [])
    ∷ line 2 1 ((at (pos 2) (pos 1) ∷ at (pos 2) (pos 2) ∷ []) ∷ (at (pos 2) (pos 2) ∷ at (pos 2) (pos 1) ∷ []) ∷ [])
    ∷ []

line_must_not_overlap_3 : cut rule.LineMustNotOverlap 1 0 map_line_must_not_overlap_3 1
    ≡ found 2 ((zero (minus 1) (pos 0) (pos 2) ∷ at_least (pos 1) (pos 0) (minus 2) ∷ at_least (minus 1) (pos 0) (pos 2)
    ∷ at_least (pos 0) (pos 1) (minus 1) ∷ at_least (pos 0) (minus 1) (pos 2) ∷ []) ∷ (zero (minus 1) (pos 0) (pos 2)
    ∷ at_least (pos 1) (pos 0) (minus 2) ∷ at_least (minus 1) (pos 0) (pos 2) ∷ at_least (pos 0) (pos 1) (minus 1)
    ∷ at_least (pos 0) (minus 1) (pos 2) ∷ []) ∷ (zero (minus 1) (pos 0) (pos 2) ∷ at_least (pos 1) (pos 0) (minus 2)
    ∷ at_least (minus 1) (pos 0) (pos 2) ∷ at_least (pos 0) (pos 1) (minus 1) ∷ at_least (pos 0) (minus 1) (pos 2) ∷ [])
    ∷ (zero (minus 1) (pos 0) (pos 2) ∷ at_least (pos 1) (pos 0) (minus 2) ∷ at_least (minus 1) (pos 0) (pos 2)
    ∷ at_least (pos 0) (pos 1) (minus 1) ∷ at_least (pos 0) (minus 1) (pos 2) ∷ []) ∷ []) ∷ []
unfolding feature_at envelope_of has_point parts_allow pair_allows parts_of shadow_of flat_by with_bound pair_by is_above
line_must_not_overlap_3 = refl

-- 1 of: 1 LINESTRING (-1 0, 0 0)
abbrev map_line_must_not_overlap_4 : List Feature
map_line_must_not_overlap_4 =
    line 1 1 ((at (minus 1) (pos 0) ∷ at (pos 0) (pos 0) ∷ []) ∷ [])
    ∷ []

line_must_not_overlap_4 : cut rule.LineMustNotOverlap 1 0 map_line_must_not_overlap_4 1 ≡ []
unfolding feature_at envelope_of has_point parts_allow pair_allows parts_of shadow_of flat_by with_bound pair_by is_above
line_must_not_overlap_4 = refl

-- 1 of: 1 LINESTRING (-1 -1, -1 0); 2 LINESTRING (-1 0, -1 -1)
abbrev map_line_must_not_overlap_with_1 : List Feature
map_line_must_not_overlap_with_1 =
    line 1 1 ((at (minus 1) (minus 1) ∷ at (minus 1) (pos 0) ∷ []) ∷ [])
    ∷ line 2 2 ((at (minus 1) (pos 0) ∷ at (minus 1) (minus 1) ∷ []) ∷ [])
    ∷ []

line_must_not_overlap_with_1 : cut rule.LineMustNotOverlapWith 1 2 map_line_must_not_overlap_with_1 1
    ≡ found 2 ((zero (minus 1) (pos 0) (minus 1) ∷ at_least (pos 1) (pos 0) (pos 1) ∷ at_least (minus 1) (pos 0) (minus 1)
    ∷ at_least (pos 0) (pos 1) (pos 1) ∷ at_least (pos 0) (minus 1) (pos 0) ∷ []) ∷ []) ∷ []
unfolding feature_at envelope_of has_point parts_allow pair_allows parts_of shadow_of flat_by with_bound pair_by is_above
line_must_not_overlap_with_1 = refl

-- 4 of: 1 LINESTRING (2 -1, 2 1); 2 MULTILINESTRING ((2 -1, 2 -2), (2 -2, -2 -1, -1 -1, 2 -1, 2 -2)); 2 LINESTRING (2 -1, -2 -1, 2
-- 1, 2 -1); 1 LINESTRING (-1 2, -1 -2, -2 -1, 2 -1)
abbrev map_line_must_not_overlap_with_2 : List Feature
map_line_must_not_overlap_with_2 =
    line 1 1 ((at (pos 2) (minus 1) ∷ at (pos 2) (pos 1) ∷ []) ∷ [])
    ∷ line 2 2 ((at (pos 2) (minus 1) ∷ at (pos 2) (minus 2) ∷ []) ∷ (at (pos 2) (minus 2) ∷ at (minus 2) (minus 1)
    ∷ at (minus 1) (minus 1) ∷ at (pos 2) (minus 1) ∷ at (pos 2) (minus 2) ∷ []) ∷ [])
    ∷ line 3 2 ((at (pos 2) (minus 1) ∷ at (minus 2) (minus 1) ∷ at (pos 2) (pos 1) ∷ at (pos 2) (minus 1) ∷ []) ∷ [])
    ∷ line 4 1 ((at (minus 1) (pos 2) ∷ at (minus 1) (minus 2) ∷ at (minus 2) (minus 1) ∷ at (pos 2) (minus 1) ∷ []) ∷ [])
    ∷ []

line_must_not_overlap_with_2 : cut rule.LineMustNotOverlapWith 1 2 map_line_must_not_overlap_with_2 4
    ≡ found 2 ((zero (pos 0) (pos 4) (pos 4) ∷ at_least (pos 1) (pos 0) (pos 2) ∷ at_least (minus 1) (pos 0) (pos 2)
    ∷ at_least (pos 0) (pos 1) (pos 1) ∷ at_least (pos 0) (minus 1) (minus 1) ∷ zero (pos 0) (pos 1) (pos 1)
    ∷ at_least (minus 1) (pos 0) (minus 1) ∷ []) ∷ (zero (pos 0) (pos 4) (pos 4) ∷ at_least (pos 1) (pos 0) (pos 2)
    ∷ at_least (minus 1) (pos 0) (pos 2) ∷ at_least (pos 0) (pos 1) (pos 1) ∷ at_least (pos 0) (minus 1) (minus 1)
    ∷ zero (pos 0) (pos 3) (pos 3) ∷ at_least (pos 1) (pos 0) (pos 1) ∷ []) ∷ []) ∷ found 3 ((zero (pos 0) (pos 4) (pos 4)
    ∷ at_least (pos 1) (pos 0) (pos 2) ∷ at_least (minus 1) (pos 0) (pos 2) ∷ at_least (pos 0) (pos 1) (pos 1)
    ∷ at_least (pos 0) (minus 1) (minus 1) ∷ []) ∷ []) ∷ []
unfolding feature_at envelope_of has_point parts_allow pair_allows parts_of shadow_of flat_by with_bound pair_by is_above
line_must_not_overlap_with_2 = refl

-- 2 of: 1 LINESTRING (1 -3, 1 3, 2 0, 1 -3); 1 LINESTRING (1 -3, -3 2, 1 -3, 3 3); 2 LINESTRING (3 3, 1 -3); 2 LINESTRING (1 -3, 3
-- 3)
abbrev map_line_must_not_overlap_with_3 : List Feature
map_line_must_not_overlap_with_3 =
    line 1 1 ((at (pos 1) (minus 3) ∷ at (pos 1) (pos 3) ∷ at (pos 2) (pos 0) ∷ at (pos 1) (minus 3) ∷ []) ∷ [])
    ∷ line 2 1 ((at (pos 1) (minus 3) ∷ at (minus 3) (pos 2) ∷ at (pos 1) (minus 3) ∷ at (pos 3) (pos 3) ∷ []) ∷ [])
    ∷ line 3 2 ((at (pos 3) (pos 3) ∷ at (pos 1) (minus 3) ∷ []) ∷ [])
    ∷ line 4 2 ((at (pos 1) (minus 3) ∷ at (pos 3) (pos 3) ∷ []) ∷ [])
    ∷ []

line_must_not_overlap_with_3 : cut rule.LineMustNotOverlapWith 1 2 map_line_must_not_overlap_with_3 2
    ≡ found 3 ((zero (minus 6) (pos 2) (pos 12) ∷ at_least (pos 1) (pos 0) (minus 1) ∷ at_least (minus 1) (pos 0) (pos 3)
    ∷ at_least (pos 0) (pos 1) (pos 3) ∷ at_least (pos 0) (minus 1) (pos 3) ∷ []) ∷ []) ∷ found 4 ((zero (minus 6) (pos 2) (pos 12)
    ∷ at_least (pos 1) (pos 0) (minus 1) ∷ at_least (minus 1) (pos 0) (pos 3) ∷ at_least (pos 0) (pos 1) (pos 3)
    ∷ at_least (pos 0) (minus 1) (pos 3) ∷ []) ∷ []) ∷ []
unfolding feature_at envelope_of has_point parts_allow pair_allows parts_of shadow_of flat_by with_bound pair_by is_above
line_must_not_overlap_with_3 = refl

-- 2 of: 1 LINESTRING (3 -2, -2 -1, 3 -2); 1 LINESTRING (0 -1, 1 -2)
abbrev map_line_must_not_overlap_with_4 : List Feature
map_line_must_not_overlap_with_4 =
    line 1 1 ((at (pos 3) (minus 2) ∷ at (minus 2) (minus 1) ∷ at (pos 3) (minus 2) ∷ []) ∷ [])
    ∷ line 2 1 ((at (pos 0) (minus 1) ∷ at (pos 1) (minus 2) ∷ []) ∷ [])
    ∷ []

line_must_not_overlap_with_4 : cut rule.LineMustNotOverlapWith 1 2 map_line_must_not_overlap_with_4 2 ≡ []
unfolding feature_at envelope_of has_point parts_allow pair_allows parts_of shadow_of flat_by with_bound pair_by is_above
line_must_not_overlap_with_4 = refl

-- 1 of: 1 LINESTRING (-2 -3, -3 1); 1 LINESTRING (-2 -3, -3 1)
abbrev map_line_must_not_intersect_1 : List Feature
map_line_must_not_intersect_1 =
    line 1 1 ((at (minus 2) (minus 3) ∷ at (minus 3) (pos 1) ∷ []) ∷ [])
    ∷ line 2 1 ((at (minus 2) (minus 3) ∷ at (minus 3) (pos 1) ∷ []) ∷ [])
    ∷ []

line_must_not_intersect_1 : cut rule.LineMustNotIntersect 1 0 map_line_must_not_intersect_1 1
    ≡ found 2 ((zero (pos 4) (pos 1) (pos 11) ∷ at_least (pos 1) (pos 0) (pos 3) ∷ at_least (minus 1) (pos 0) (minus 2)
    ∷ at_least (pos 0) (pos 1) (pos 3) ∷ at_least (pos 0) (minus 1) (pos 1) ∷ over (minus 1) (pos 0) (minus 2)
    ∷ over (pos 1) (pos 0) (pos 3) ∷ []) ∷ []) ∷ []
unfolding feature_at envelope_of has_point parts_allow pair_allows parts_of shadow_of flat_by with_bound pair_by is_above
line_must_not_intersect_1 = refl

-- 1 of: 1 LINESTRING (1 -2, 0 -1, -3 1, 0 -1, -3 1, 1 -2); 1 MULTILINESTRING ((0 -1, -3 1), (-2 0, 1 -2, -3 1, -2 0), (-3 1, -3 3))
abbrev map_line_must_not_intersect_2 : List Feature
map_line_must_not_intersect_2 =
    line 1 1 ((at (pos 1) (minus 2) ∷ at (pos 0) (minus 1) ∷ at (minus 3) (pos 1) ∷ at (pos 0) (minus 1) ∷ at (minus 3) (pos 1)
    ∷ at (pos 1) (minus 2) ∷ []) ∷ [])
    ∷ line 2 1 ((at (pos 0) (minus 1) ∷ at (minus 3) (pos 1) ∷ []) ∷ (at (minus 2) (pos 0) ∷ at (pos 1) (minus 2) ∷ at (minus 3) (pos 1)
    ∷ at (minus 2) (pos 0) ∷ []) ∷ (at (minus 3) (pos 1) ∷ at (minus 3) (pos 3) ∷ []) ∷ [])
    ∷ []

line_must_not_intersect_2 : cut rule.LineMustNotIntersect 1 0 map_line_must_not_intersect_2 1
    ≡ found 2 ((zero (pos 2) (pos 3) (pos 3) ∷ at_least (pos 1) (pos 0) (pos 3) ∷ at_least (minus 1) (pos 0) (pos 0)
    ∷ at_least (pos 0) (pos 1) (pos 1) ∷ at_least (pos 0) (minus 1) (pos 1) ∷ over (minus 1) (pos 0) (pos 0)
    ∷ over (pos 1) (pos 0) (pos 3) ∷ []) ∷ (zero (pos 2) (pos 3) (pos 3) ∷ at_least (pos 1) (pos 0) (pos 3)
    ∷ at_least (minus 1) (pos 0) (pos 0) ∷ at_least (pos 0) (pos 1) (pos 1) ∷ at_least (pos 0) (minus 1) (pos 1)
    ∷ over (minus 1) (pos 0) (pos 0) ∷ over (pos 1) (pos 0) (pos 3) ∷ []) ∷ (zero (pos 2) (pos 3) (pos 3)
    ∷ at_least (pos 1) (pos 0) (pos 3) ∷ at_least (minus 1) (pos 0) (pos 0) ∷ at_least (pos 0) (pos 1) (pos 1)
    ∷ at_least (pos 0) (minus 1) (pos 1) ∷ over (minus 1) (pos 0) (pos 0) ∷ over (pos 1) (pos 0) (pos 3) ∷ [])
    ∷ (zero (pos 3) (pos 4) (pos 5) ∷ at_least (pos 1) (pos 0) (pos 3) ∷ at_least (minus 1) (pos 0) (pos 1)
    ∷ at_least (pos 0) (pos 1) (pos 2) ∷ at_least (pos 0) (minus 1) (pos 1) ∷ over (minus 1) (pos 0) (pos 1)
    ∷ over (pos 1) (pos 0) (pos 3) ∷ []) ∷ []) ∷ []
unfolding feature_at envelope_of has_point parts_allow pair_allows parts_of shadow_of flat_by with_bound pair_by is_above
line_must_not_intersect_2 = refl

-- 1 of: 1 LINESTRING (1 2, 2 0); 1 MULTILINESTRING ((1 -1, 2 1, 1 2), (1 -1, 2 2, 0 0, 0 1), (1 2, 1 1, 1 0))
abbrev map_line_must_not_intersect_3 : List Feature
map_line_must_not_intersect_3 =
    line 1 1 ((at (pos 1) (pos 2) ∷ at (pos 2) (pos 0) ∷ []) ∷ [])
    ∷ line 2 1 ((at (pos 1) (minus 1) ∷ at (pos 2) (pos 1) ∷ at (pos 1) (pos 2) ∷ []) ∷ (at (pos 1) (minus 1) ∷ at (pos 2) (pos 2)
    ∷ at (pos 0) (pos 0) ∷ at (pos 0) (pos 1) ∷ []) ∷ (at (pos 1) (pos 2) ∷ at (pos 1) (pos 1) ∷ at (pos 1) (pos 0) ∷ []) ∷ [])
    ∷ []

line_must_not_intersect_3 : cut rule.LineMustNotIntersect 1 0 map_line_must_not_intersect_3 1
    ≡ found 2 ((zero (pos 2) (pos 1) (minus 4) ∷ at_least (pos 1) (pos 0) (minus 1) ∷ at_least (minus 1) (pos 0) (pos 2)
    ∷ at_least (pos 0) (pos 1) (pos 0) ∷ at_least (pos 0) (minus 1) (pos 2) ∷ zero (minus 2) (pos 1) (pos 3)
    ∷ at_least (pos 0) (pos 1) (pos 1) ∷ at_least (pos 0) (minus 1) (pos 1) ∷ []) ∷ (zero (pos 2) (pos 1) (minus 4)
    ∷ at_least (pos 1) (pos 0) (minus 1) ∷ at_least (minus 1) (pos 0) (pos 2) ∷ at_least (pos 0) (pos 1) (pos 0)
    ∷ at_least (pos 0) (minus 1) (pos 2) ∷ zero (minus 3) (pos 1) (pos 4) ∷ at_least (pos 0) (pos 1) (pos 1) ∷ [])
    ∷ (zero (pos 2) (pos 1) (minus 4) ∷ at_least (pos 1) (pos 0) (minus 1) ∷ at_least (minus 1) (pos 0) (pos 2)
    ∷ at_least (pos 0) (pos 1) (pos 0) ∷ at_least (pos 0) (minus 1) (pos 2) ∷ zero (minus 2) (pos 2) (pos 0)
    ∷ at_least (pos 1) (pos 0) (pos 0) ∷ []) ∷ []) ∷ []
unfolding feature_at envelope_of has_point parts_allow pair_allows parts_of shadow_of flat_by with_bound pair_by is_above
line_must_not_intersect_3 = refl

-- 1 of: 1 LINESTRING (-2 1, 1 -2); 1 LINESTRING (0 -1, -2 -1, -1 -2, -2 0)
abbrev map_line_must_not_intersect_4 : List Feature
map_line_must_not_intersect_4 =
    line 1 1 ((at (minus 2) (pos 1) ∷ at (pos 1) (minus 2) ∷ []) ∷ [])
    ∷ line 2 1 ((at (pos 0) (minus 1) ∷ at (minus 2) (minus 1) ∷ at (minus 1) (minus 2) ∷ at (minus 2) (pos 0) ∷ []) ∷ [])
    ∷ []

line_must_not_intersect_4 : cut rule.LineMustNotIntersect 1 0 map_line_must_not_intersect_4 1 ≡ []
unfolding feature_at envelope_of has_point parts_allow pair_allows parts_of shadow_of flat_by with_bound pair_by is_above
line_must_not_intersect_4 = refl

-- 1 of: 1 LINESTRING (-3 0, -3 -3); 1 MULTILINESTRING ((0 2, -3 -3), (-3 -3, -3 1, 1 -1, -3 -3))
abbrev map_line_must_not_intersect_or_touch_interior_1 : List Feature
map_line_must_not_intersect_or_touch_interior_1 =
    line 1 1 ((at (minus 3) (pos 0) ∷ at (minus 3) (minus 3) ∷ []) ∷ [])
    ∷ line 2 1 ((at (pos 0) (pos 2) ∷ at (minus 3) (minus 3) ∷ []) ∷ (at (minus 3) (minus 3) ∷ at (minus 3) (pos 1) ∷ at (pos 1) (minus 1)
    ∷ at (minus 3) (minus 3) ∷ []) ∷ [])
    ∷ []

line_must_not_intersect_or_touch_interior_1 : cut rule.LineMustNotIntersectOrTouchInterior 1 0
    map_line_must_not_intersect_or_touch_interior_1 1
    ≡ found 2 ((zero (minus 3) (pos 0) (minus 9) ∷ at_least (pos 1) (pos 0) (pos 3) ∷ at_least (minus 1) (pos 0) (minus 3)
    ∷ at_least (pos 0) (pos 1) (pos 3) ∷ at_least (pos 0) (minus 1) (pos 0) ∷ zero (minus 4) (pos 0) (minus 12)
    ∷ at_least (pos 0) (minus 1) (pos 1) ∷ zero (pos 1) (pos 0) (pos 3) ∷ over (pos 0) (pos 1) (pos 3) ∷ []) ∷ []) ∷ []
unfolding feature_at envelope_of has_point parts_allow pair_allows parts_of shadow_of flat_by with_bound pair_by is_above
line_must_not_intersect_or_touch_interior_1 = refl

-- 1 of: 1 LINESTRING (-1 2, 0 -1); 1 LINESTRING (0 2, -3 0); 1 LINESTRING (-1 0, 1 -2, -1 -3)
abbrev map_line_must_not_intersect_or_touch_interior_2 : List Feature
map_line_must_not_intersect_or_touch_interior_2 =
    line 1 1 ((at (minus 1) (pos 2) ∷ at (pos 0) (minus 1) ∷ []) ∷ [])
    ∷ line 2 1 ((at (pos 0) (pos 2) ∷ at (minus 3) (pos 0) ∷ []) ∷ [])
    ∷ line 3 1 ((at (minus 1) (pos 0) ∷ at (pos 1) (minus 2) ∷ at (minus 1) (minus 3) ∷ []) ∷ [])
    ∷ []

line_must_not_intersect_or_touch_interior_2 : cut rule.LineMustNotIntersectOrTouchInterior 1 0
    map_line_must_not_intersect_or_touch_interior_2 1
    ≡ found 2 ((zero (pos 3) (pos 1) (pos 1) ∷ at_least (pos 1) (pos 0) (pos 1) ∷ at_least (minus 1) (pos 0) (pos 0)
    ∷ at_least (pos 0) (pos 1) (pos 1) ∷ at_least (pos 0) (minus 1) (pos 2) ∷ zero (minus 2) (pos 3) (minus 6)
    ∷ at_least (pos 1) (pos 0) (pos 3) ∷ at_least (pos 0) (pos 1) (pos 0) ∷ []) ∷ []) ∷ found 3 ((zero (pos 3) (pos 1) (pos 1)
    ∷ at_least (pos 1) (pos 0) (pos 1) ∷ at_least (minus 1) (pos 0) (pos 0) ∷ at_least (pos 0) (pos 1) (pos 1)
    ∷ at_least (pos 0) (minus 1) (pos 2) ∷ zero (pos 2) (pos 2) (pos 2) ∷ at_least (minus 1) (pos 0) (pos 1)
    ∷ at_least (pos 0) (pos 1) (pos 2) ∷ at_least (pos 0) (minus 1) (pos 0) ∷ []) ∷ []) ∷ []
unfolding feature_at envelope_of has_point parts_allow pair_allows parts_of shadow_of flat_by with_bound pair_by is_above
line_must_not_intersect_or_touch_interior_2 = refl

-- 1 of: 1 LINESTRING (-1 2, 1 -2, -1 2, 2 -2, -1 2); 1 LINESTRING (-1 2, 1 -2, -1 -1)
abbrev map_line_must_not_intersect_or_touch_interior_3 : List Feature
map_line_must_not_intersect_or_touch_interior_3 =
    line 1 1 ((at (minus 1) (pos 2) ∷ at (pos 1) (minus 2) ∷ at (minus 1) (pos 2) ∷ at (pos 2) (minus 2) ∷ at (minus 1) (pos 2) ∷ [])
    ∷ [])
    ∷ line 2 1 ((at (minus 1) (pos 2) ∷ at (pos 1) (minus 2) ∷ at (minus 1) (minus 1) ∷ []) ∷ [])
    ∷ []

line_must_not_intersect_or_touch_interior_3 : cut rule.LineMustNotIntersectOrTouchInterior 1 0
    map_line_must_not_intersect_or_touch_interior_3 1
    ≡ found 2 ((zero (pos 4) (pos 2) (pos 0) ∷ at_least (pos 1) (pos 0) (pos 1) ∷ at_least (minus 1) (pos 0) (pos 1)
    ∷ at_least (pos 0) (pos 1) (pos 2) ∷ at_least (pos 0) (minus 1) (pos 2) ∷ over (pos 1) (pos 0) (pos 1) ∷ [])
    ∷ (zero (pos 4) (pos 2) (pos 0) ∷ at_least (pos 1) (pos 0) (pos 1) ∷ at_least (minus 1) (pos 0) (pos 1)
    ∷ at_least (pos 0) (pos 1) (pos 2) ∷ at_least (pos 0) (minus 1) (pos 2) ∷ zero (pos 1) (pos 2) (pos 3)
    ∷ at_least (pos 0) (minus 1) (minus 1) ∷ []) ∷ (zero (pos 4) (pos 2) (pos 0) ∷ at_least (pos 1) (pos 0) (pos 1)
    ∷ at_least (minus 1) (pos 0) (pos 1) ∷ at_least (pos 0) (pos 1) (pos 2) ∷ at_least (pos 0) (minus 1) (pos 2)
    ∷ over (pos 1) (pos 0) (pos 1) ∷ []) ∷ (zero (pos 4) (pos 2) (pos 0) ∷ at_least (pos 1) (pos 0) (pos 1)
    ∷ at_least (minus 1) (pos 0) (pos 1) ∷ at_least (pos 0) (pos 1) (pos 2) ∷ at_least (pos 0) (minus 1) (pos 2)
    ∷ zero (pos 1) (pos 2) (pos 3) ∷ at_least (pos 0) (minus 1) (minus 1) ∷ []) ∷ []) ∷ []
unfolding feature_at envelope_of has_point parts_allow pair_allows parts_of shadow_of flat_by with_bound pair_by is_above
line_must_not_intersect_or_touch_interior_3 = refl

-- 1 of: 1 LINESTRING (-2 -1, -1 2)
abbrev map_line_must_not_intersect_or_touch_interior_4 : List Feature
map_line_must_not_intersect_or_touch_interior_4 =
    line 1 1 ((at (minus 2) (minus 1) ∷ at (minus 1) (pos 2) ∷ []) ∷ [])
    ∷ []

line_must_not_intersect_or_touch_interior_4 : cut rule.LineMustNotIntersectOrTouchInterior 1 0
    map_line_must_not_intersect_or_touch_interior_4 1
    ≡ []
unfolding feature_at envelope_of has_point parts_allow pair_allows parts_of shadow_of flat_by with_bound pair_by is_above
line_must_not_intersect_or_touch_interior_4 = refl

-- 1 of: 1 LINESTRING (-3 1, -2 2, -2 1)
abbrev map_line_must_not_have_dangles_1 : List Feature
map_line_must_not_have_dangles_1 =
    line 1 1 ((at (minus 3) (pos 1) ∷ at (minus 2) (pos 2) ∷ at (minus 2) (pos 1) ∷ []) ∷ [])
    ∷ []

line_must_not_have_dangles_1 : cut rule.LineMustNotHaveDangles 1 0 map_line_must_not_have_dangles_1 1
    ≡ found 0 ((zero (pos 1) (pos 0) (pos 3) ∷ zero (pos 0) (pos 1) (minus 1) ∷ []) ∷ (zero (pos 1) (pos 0) (pos 2)
    ∷ zero (pos 0) (pos 1) (minus 1) ∷ []) ∷ []) ∷ []
unfolding feature_at envelope_of has_point parts_allow pair_allows parts_of shadow_of flat_by with_bound pair_by is_above
line_must_not_have_dangles_1 = refl

-- 1 of: 1 LINESTRING (-2 1, 0 -2); 1 LINESTRING (0 0, -2 2)
abbrev map_line_must_not_have_dangles_2 : List Feature
map_line_must_not_have_dangles_2 =
    line 1 1 ((at (minus 2) (pos 1) ∷ at (pos 0) (minus 2) ∷ []) ∷ [])
    ∷ line 2 1 ((at (pos 0) (pos 0) ∷ at (minus 2) (pos 2) ∷ []) ∷ [])
    ∷ []

line_must_not_have_dangles_2 : cut rule.LineMustNotHaveDangles 1 0 map_line_must_not_have_dangles_2 1
    ≡ found 0 ((zero (pos 1) (pos 0) (pos 2) ∷ zero (pos 0) (pos 1) (minus 1) ∷ []) ∷ (zero (pos 1) (pos 0) (pos 0)
    ∷ zero (pos 0) (pos 1) (pos 2) ∷ []) ∷ []) ∷ []
unfolding feature_at envelope_of has_point parts_allow pair_allows parts_of shadow_of flat_by with_bound pair_by is_above
line_must_not_have_dangles_2 = refl

-- 2 of: 1 LINESTRING (2 0, -1 -1); 1 LINESTRING (1 -2, -1 1)
abbrev map_line_must_not_have_dangles_3 : List Feature
map_line_must_not_have_dangles_3 =
    line 1 1 ((at (pos 2) (pos 0) ∷ at (minus 1) (minus 1) ∷ []) ∷ [])
    ∷ line 2 1 ((at (pos 1) (minus 2) ∷ at (minus 1) (pos 1) ∷ []) ∷ [])
    ∷ []

line_must_not_have_dangles_3 : cut rule.LineMustNotHaveDangles 1 0 map_line_must_not_have_dangles_3 2
    ≡ found 0 ((zero (pos 1) (pos 0) (minus 1) ∷ zero (pos 0) (pos 1) (pos 2) ∷ []) ∷ (zero (pos 1) (pos 0) (pos 1)
    ∷ zero (pos 0) (pos 1) (minus 1) ∷ []) ∷ []) ∷ []
unfolding feature_at envelope_of has_point parts_allow pair_allows parts_of shadow_of flat_by with_bound pair_by is_above
line_must_not_have_dangles_3 = refl

-- 2 of: 1 LINESTRING (0 1, 1 1, 0 1, -1 2); 1 LINESTRING (-1 2, 0 1, -1 2, 0 1)
abbrev map_line_must_not_have_dangles_4 : List Feature
map_line_must_not_have_dangles_4 =
    line 1 1 ((at (pos 0) (pos 1) ∷ at (pos 1) (pos 1) ∷ at (pos 0) (pos 1) ∷ at (minus 1) (pos 2) ∷ []) ∷ [])
    ∷ line 2 1 ((at (minus 1) (pos 2) ∷ at (pos 0) (pos 1) ∷ at (minus 1) (pos 2) ∷ at (pos 0) (pos 1) ∷ []) ∷ [])
    ∷ []

line_must_not_have_dangles_4 : cut rule.LineMustNotHaveDangles 1 0 map_line_must_not_have_dangles_4 2 ≡ []
unfolding feature_at envelope_of has_point parts_allow pair_allows parts_of shadow_of flat_by with_bound pair_by is_above
line_must_not_have_dangles_4 = refl

-- 1 of: 1 LINESTRING (3 2, 2 -3, 3 2)
abbrev map_line_must_not_have_pseudo_nodes_1 : List Feature
map_line_must_not_have_pseudo_nodes_1 =
    line 1 1 ((at (pos 3) (pos 2) ∷ at (pos 2) (minus 3) ∷ at (pos 3) (pos 2) ∷ []) ∷ [])
    ∷ []

line_must_not_have_pseudo_nodes_1 : cut rule.LineMustNotHavePseudoNodes 1 0 map_line_must_not_have_pseudo_nodes_1 1
    ≡ found 0 ((zero (pos 1) (pos 0) (minus 3) ∷ zero (pos 0) (pos 1) (minus 2) ∷ []) ∷ []) ∷ []
unfolding feature_at envelope_of has_point parts_allow pair_allows parts_of shadow_of flat_by with_bound pair_by is_above
line_must_not_have_pseudo_nodes_1 = refl

-- 1 of: 1 LINESTRING (-3 3, -3 -2, -3 3)
abbrev map_line_must_not_have_pseudo_nodes_2 : List Feature
map_line_must_not_have_pseudo_nodes_2 =
    line 1 1 ((at (minus 3) (pos 3) ∷ at (minus 3) (minus 2) ∷ at (minus 3) (pos 3) ∷ []) ∷ [])
    ∷ []

line_must_not_have_pseudo_nodes_2 : cut rule.LineMustNotHavePseudoNodes 1 0 map_line_must_not_have_pseudo_nodes_2 1
    ≡ found 0 ((zero (pos 1) (pos 0) (pos 3) ∷ zero (pos 0) (pos 1) (minus 3) ∷ []) ∷ []) ∷ []
unfolding feature_at envelope_of has_point parts_allow pair_allows parts_of shadow_of flat_by with_bound pair_by is_above
line_must_not_have_pseudo_nodes_2 = refl

-- 1 of: 1 MULTILINESTRING ((-2 1, -2 0), (-2 1, 0 0))
abbrev map_line_must_not_have_pseudo_nodes_3 : List Feature
map_line_must_not_have_pseudo_nodes_3 =
    line 1 1 ((at (minus 2) (pos 1) ∷ at (minus 2) (pos 0) ∷ []) ∷ (at (minus 2) (pos 1) ∷ at (pos 0) (pos 0) ∷ []) ∷ [])
    ∷ []

line_must_not_have_pseudo_nodes_3 : cut rule.LineMustNotHavePseudoNodes 1 0 map_line_must_not_have_pseudo_nodes_3 1
    ≡ found 0 ((zero (pos 1) (pos 0) (pos 2) ∷ zero (pos 0) (pos 1) (minus 1) ∷ []) ∷ []) ∷ []
unfolding feature_at envelope_of has_point parts_allow pair_allows parts_of shadow_of flat_by with_bound pair_by is_above
line_must_not_have_pseudo_nodes_3 = refl

-- 2 of: 1 LINESTRING (1 1, -2 1); 1 LINESTRING (-2 1, 1 1, -2 1)
abbrev map_line_must_not_have_pseudo_nodes_4 : List Feature
map_line_must_not_have_pseudo_nodes_4 =
    line 1 1 ((at (pos 1) (pos 1) ∷ at (minus 2) (pos 1) ∷ []) ∷ [])
    ∷ line 2 1 ((at (minus 2) (pos 1) ∷ at (pos 1) (pos 1) ∷ at (minus 2) (pos 1) ∷ []) ∷ [])
    ∷ []

line_must_not_have_pseudo_nodes_4 : cut rule.LineMustNotHavePseudoNodes 1 0 map_line_must_not_have_pseudo_nodes_4 2 ≡ []
unfolding feature_at envelope_of has_point parts_allow pair_allows parts_of shadow_of flat_by with_bound pair_by is_above
line_must_not_have_pseudo_nodes_4 = refl

-- 2 of: 1 LINESTRING (2 -1, 1 -2); 1 LINESTRING (2 -2, 1 0)
abbrev map_line_must_be_covered_by_feature_class_of_1 : List Feature
map_line_must_be_covered_by_feature_class_of_1 =
    line 1 1 ((at (pos 2) (minus 1) ∷ at (pos 1) (minus 2) ∷ []) ∷ [])
    ∷ line 2 1 ((at (pos 2) (minus 2) ∷ at (pos 1) (pos 0) ∷ []) ∷ [])
    ∷ []

line_must_be_covered_by_feature_class_of_1 : cut rule.LineMustBeCoveredByFeatureClassOf 1 2 map_line_must_be_covered_by_feature_class_of_1 2
    ≡ found 0 ((zero (pos 2) (pos 1) (minus 2) ∷ at_least (pos 1) (pos 0) (minus 1) ∷ at_least (minus 1) (pos 0) (pos 2)
    ∷ at_least (pos 0) (pos 1) (pos 2) ∷ at_least (pos 0) (minus 1) (pos 0) ∷ []) ∷ []) ∷ []
unfolding feature_at envelope_of has_point parts_allow pair_allows parts_of shadow_of flat_by with_bound pair_by is_above
line_must_be_covered_by_feature_class_of_1 = refl

-- 1 of: 1 LINESTRING (-2 1, 3 -2, 0 2, 3 -2, -2 1); 2 LINESTRING (0 2, 2 -2); 1 LINESTRING (-3 -2, 0 2, 2 -2)
abbrev map_line_must_be_covered_by_feature_class_of_2 : List Feature
map_line_must_be_covered_by_feature_class_of_2 =
    line 1 1 ((at (minus 2) (pos 1) ∷ at (pos 3) (minus 2) ∷ at (pos 0) (pos 2) ∷ at (pos 3) (minus 2) ∷ at (minus 2) (pos 1) ∷ []) ∷ [])
    ∷ line 2 2 ((at (pos 0) (pos 2) ∷ at (pos 2) (minus 2) ∷ []) ∷ [])
    ∷ line 3 1 ((at (minus 3) (minus 2) ∷ at (pos 0) (pos 2) ∷ at (pos 2) (minus 2) ∷ []) ∷ [])
    ∷ []

line_must_be_covered_by_feature_class_of_2 : cut rule.LineMustBeCoveredByFeatureClassOf 1 2 map_line_must_be_covered_by_feature_class_of_2 1
    ≡ found 0 ((zero (pos 3) (pos 5) (pos 1) ∷ at_least (pos 1) (pos 0) (pos 2) ∷ at_least (minus 1) (pos 0) (pos 3)
    ∷ at_least (pos 0) (pos 1) (pos 2) ∷ at_least (pos 0) (minus 1) (pos 1) ∷ over (pos 4) (pos 2) (minus 4) ∷ [])
    ∷ (zero (pos 3) (pos 5) (pos 1) ∷ at_least (pos 1) (pos 0) (pos 2) ∷ at_least (minus 1) (pos 0) (pos 3)
    ∷ at_least (pos 0) (pos 1) (pos 2) ∷ at_least (pos 0) (minus 1) (pos 1) ∷ over (minus 4) (minus 2) (pos 4) ∷ [])
    ∷ (zero (pos 4) (pos 3) (minus 6) ∷ at_least (pos 1) (pos 0) (pos 0) ∷ at_least (minus 1) (pos 0) (pos 3)
    ∷ at_least (pos 0) (pos 1) (pos 2) ∷ at_least (pos 0) (minus 1) (pos 2) ∷ over (pos 4) (pos 2) (minus 4) ∷ [])
    ∷ (zero (pos 4) (pos 3) (minus 6) ∷ at_least (pos 1) (pos 0) (pos 0) ∷ at_least (minus 1) (pos 0) (pos 3)
    ∷ at_least (pos 0) (pos 1) (pos 2) ∷ at_least (pos 0) (minus 1) (pos 2) ∷ over (pos 4) (pos 2) (minus 4) ∷ [])
    ∷ (zero (pos 3) (pos 5) (pos 1) ∷ at_least (pos 1) (pos 0) (pos 2) ∷ at_least (minus 1) (pos 0) (pos 3)
    ∷ at_least (pos 0) (pos 1) (pos 2) ∷ at_least (pos 0) (minus 1) (pos 1) ∷ over (pos 4) (pos 2) (minus 4) ∷ [])
    ∷ (zero (pos 3) (pos 5) (pos 1) ∷ at_least (pos 1) (pos 0) (pos 2) ∷ at_least (minus 1) (pos 0) (pos 3)
    ∷ at_least (pos 0) (pos 1) (pos 2) ∷ at_least (pos 0) (minus 1) (pos 1) ∷ over (minus 4) (minus 2) (pos 4) ∷ []) ∷ []) ∷ []
unfolding feature_at envelope_of has_point parts_allow pair_allows parts_of shadow_of flat_by with_bound pair_by is_above
line_must_be_covered_by_feature_class_of_2 = refl

-- 1 of: 1 LINESTRING (-1 -1, 0 2, 1 -1, -1 -1); 2 MULTILINESTRING ((0 2, 1 0), (0 2, -1 3, 1 -2))
abbrev map_line_must_be_covered_by_feature_class_of_3 : List Feature
map_line_must_be_covered_by_feature_class_of_3 =
    line 1 1 ((at (minus 1) (minus 1) ∷ at (pos 0) (pos 2) ∷ at (pos 1) (minus 1) ∷ at (minus 1) (minus 1) ∷ []) ∷ [])
    ∷ line 2 2 ((at (pos 0) (pos 2) ∷ at (pos 1) (pos 0) ∷ []) ∷ (at (pos 0) (pos 2) ∷ at (minus 1) (pos 3) ∷ at (pos 1) (minus 2) ∷ [])
    ∷ [])
    ∷ []

line_must_be_covered_by_feature_class_of_3 : cut rule.LineMustBeCoveredByFeatureClassOf 1 2 map_line_must_be_covered_by_feature_class_of_3 1
    ≡ found 0 ((zero (minus 3) (pos 1) (minus 2) ∷ at_least (pos 1) (pos 0) (pos 1) ∷ at_least (minus 1) (pos 0) (pos 0)
    ∷ at_least (pos 0) (pos 1) (pos 1) ∷ at_least (pos 0) (minus 1) (pos 2) ∷ over (minus 2) (minus 1) (pos 2)
    ∷ over (minus 1) (minus 1) (pos 2) ∷ over (pos 5) (pos 2) (minus 1) ∷ []) ∷ (zero (minus 3) (pos 1) (minus 2)
    ∷ at_least (pos 1) (pos 0) (pos 1) ∷ at_least (minus 1) (pos 0) (pos 0) ∷ at_least (pos 0) (pos 1) (pos 1)
    ∷ at_least (pos 0) (minus 1) (pos 2) ∷ over (minus 2) (minus 1) (pos 2) ∷ over (minus 1) (minus 1) (pos 2)
    ∷ over (minus 5) (minus 2) (pos 1) ∷ []) ∷ (zero (pos 3) (pos 1) (minus 2) ∷ at_least (pos 1) (pos 0) (pos 0)
    ∷ at_least (minus 1) (pos 0) (pos 1) ∷ at_least (pos 0) (pos 1) (pos 1) ∷ at_least (pos 0) (minus 1) (pos 2)
    ∷ over (minus 2) (minus 1) (pos 2) ∷ over (minus 1) (minus 1) (pos 2) ∷ over (pos 5) (pos 2) (minus 1) ∷ [])
    ∷ (zero (pos 0) (pos 2) (pos 2) ∷ at_least (pos 1) (pos 0) (pos 1) ∷ at_least (minus 1) (pos 0) (pos 1)
    ∷ at_least (pos 0) (pos 1) (pos 1) ∷ at_least (pos 0) (minus 1) (minus 1) ∷ over (pos 5) (pos 2) (minus 1) ∷ [])
    ∷ (zero (pos 0) (pos 2) (pos 2) ∷ at_least (pos 1) (pos 0) (pos 1) ∷ at_least (minus 1) (pos 0) (pos 1)
    ∷ at_least (pos 0) (pos 1) (pos 1) ∷ at_least (pos 0) (minus 1) (minus 1) ∷ over (minus 5) (minus 2) (pos 1) ∷ []) ∷ []) ∷ []
unfolding feature_at envelope_of has_point parts_allow pair_allows parts_of shadow_of flat_by with_bound pair_by is_above
line_must_be_covered_by_feature_class_of_3 = refl

-- 2 of: 1 LINESTRING (0 -2, -2 -2); 1 LINESTRING (-1 2, 1 0)
abbrev map_line_must_be_covered_by_feature_class_of_4 : List Feature
map_line_must_be_covered_by_feature_class_of_4 =
    line 1 1 ((at (pos 0) (minus 2) ∷ at (minus 2) (minus 2) ∷ []) ∷ [])
    ∷ line 2 1 ((at (minus 1) (pos 2) ∷ at (pos 1) (pos 0) ∷ []) ∷ [])
    ∷ []

line_must_be_covered_by_feature_class_of_4 : cut rule.LineMustBeCoveredByFeatureClassOf 1 2 map_line_must_be_covered_by_feature_class_of_4 2
    ≡ found 0 ((zero (pos 2) (pos 2) (minus 2) ∷ at_least (pos 1) (pos 0) (pos 1) ∷ at_least (minus 1) (pos 0) (pos 1)
    ∷ at_least (pos 0) (pos 1) (pos 0) ∷ at_least (pos 0) (minus 1) (pos 2) ∷ []) ∷ []) ∷ []
unfolding feature_at envelope_of has_point parts_allow pair_allows parts_of shadow_of flat_by with_bound pair_by is_above
line_must_be_covered_by_feature_class_of_4 = refl

-- 2 of: 1 LINESTRING (2 -2, 0 0); 1 LINESTRING (1 0, -1 2)
abbrev map_line_must_be_covered_by_boundary_of_1 : List Feature
map_line_must_be_covered_by_boundary_of_1 =
    line 1 1 ((at (pos 2) (minus 2) ∷ at (pos 0) (pos 0) ∷ []) ∷ [])
    ∷ line 2 1 ((at (pos 1) (pos 0) ∷ at (minus 1) (pos 2) ∷ []) ∷ [])
    ∷ []

line_must_be_covered_by_boundary_of_1 : cut rule.LineMustBeCoveredByBoundaryOf 1 2 map_line_must_be_covered_by_boundary_of_1 2
    ≡ found 0 ((zero (pos 2) (pos 2) (minus 2) ∷ at_least (pos 1) (pos 0) (pos 1) ∷ at_least (minus 1) (pos 0) (pos 1)
    ∷ at_least (pos 0) (pos 1) (pos 0) ∷ at_least (pos 0) (minus 1) (pos 2) ∷ []) ∷ []) ∷ []
unfolding feature_at envelope_of has_point parts_allow pair_allows parts_of shadow_of flat_by with_bound pair_by is_above
line_must_be_covered_by_boundary_of_1 = refl

-- 1 of: 1 MULTILINESTRING ((1 -1, 3 0, 3 3), (0 3, 1 -1, -3 3, -2 0), (1 -1, -1 -2, 1 -1))
abbrev map_line_must_be_covered_by_boundary_of_2 : List Feature
map_line_must_be_covered_by_boundary_of_2 =
    line 1 1 ((at (pos 1) (minus 1) ∷ at (pos 3) (pos 0) ∷ at (pos 3) (pos 3) ∷ []) ∷ (at (pos 0) (pos 3) ∷ at (pos 1) (minus 1)
    ∷ at (minus 3) (pos 3) ∷ at (minus 2) (pos 0) ∷ []) ∷ (at (pos 1) (minus 1) ∷ at (minus 1) (minus 2) ∷ at (pos 1) (minus 1) ∷ [])
    ∷ [])
    ∷ []

line_must_be_covered_by_boundary_of_2 : cut rule.LineMustBeCoveredByBoundaryOf 1 2 map_line_must_be_covered_by_boundary_of_2 1
    ≡ found 0 ((zero (minus 1) (pos 2) (pos 3) ∷ at_least (pos 1) (pos 0) (minus 1) ∷ at_least (minus 1) (pos 0) (pos 3)
    ∷ at_least (pos 0) (pos 1) (pos 1) ∷ at_least (pos 0) (minus 1) (pos 0) ∷ []) ∷ (zero (minus 3) (pos 0) (pos 9)
    ∷ at_least (pos 1) (pos 0) (minus 3) ∷ at_least (minus 1) (pos 0) (pos 3) ∷ at_least (pos 0) (pos 1) (pos 0)
    ∷ at_least (pos 0) (minus 1) (pos 3) ∷ []) ∷ (zero (pos 4) (pos 1) (minus 3) ∷ at_least (pos 1) (pos 0) (pos 0)
    ∷ at_least (minus 1) (pos 0) (pos 1) ∷ at_least (pos 0) (pos 1) (pos 1) ∷ at_least (pos 0) (minus 1) (pos 3) ∷ [])
    ∷ (zero (pos 4) (pos 4) (pos 0) ∷ at_least (pos 1) (pos 0) (pos 3) ∷ at_least (minus 1) (pos 0) (pos 1)
    ∷ at_least (pos 0) (pos 1) (pos 1) ∷ at_least (pos 0) (minus 1) (pos 3) ∷ []) ∷ (zero (pos 3) (pos 1) (pos 6)
    ∷ at_least (pos 1) (pos 0) (pos 3) ∷ at_least (minus 1) (pos 0) (minus 2) ∷ at_least (pos 0) (pos 1) (pos 0)
    ∷ at_least (pos 0) (minus 1) (pos 3) ∷ []) ∷ (zero (minus 1) (pos 2) (pos 3) ∷ at_least (pos 1) (pos 0) (pos 1)
    ∷ at_least (minus 1) (pos 0) (pos 1) ∷ at_least (pos 0) (pos 1) (pos 2) ∷ at_least (pos 0) (minus 1) (minus 1) ∷ [])
    ∷ (zero (minus 1) (pos 2) (pos 3) ∷ at_least (pos 1) (pos 0) (pos 1) ∷ at_least (minus 1) (pos 0) (pos 1)
    ∷ at_least (pos 0) (pos 1) (pos 2) ∷ at_least (pos 0) (minus 1) (minus 1) ∷ []) ∷ []) ∷ []
unfolding feature_at envelope_of has_point parts_allow pair_allows parts_of shadow_of flat_by with_bound pair_by is_above
line_must_be_covered_by_boundary_of_2 = refl

-- 2 of: 1 LINESTRING (2 -2, 2 0); 1 LINESTRING (1 1, -1 1, 0 2, -2 1, 2 -2, 1 1)
abbrev map_line_must_be_covered_by_boundary_of_3 : List Feature
map_line_must_be_covered_by_boundary_of_3 =
    line 1 1 ((at (pos 2) (minus 2) ∷ at (pos 2) (pos 0) ∷ []) ∷ [])
    ∷ line 2 1 ((at (pos 1) (pos 1) ∷ at (minus 1) (pos 1) ∷ at (pos 0) (pos 2) ∷ at (minus 2) (pos 1) ∷ at (pos 2) (minus 2)
    ∷ at (pos 1) (pos 1) ∷ []) ∷ [])
    ∷ []

line_must_be_covered_by_boundary_of_3 : cut rule.LineMustBeCoveredByBoundaryOf 1 2 map_line_must_be_covered_by_boundary_of_3 2
    ≡ found 0 ((zero (pos 0) (pos 2) (minus 2) ∷ at_least (pos 1) (pos 0) (pos 1) ∷ at_least (minus 1) (pos 0) (pos 1)
    ∷ at_least (pos 0) (pos 1) (minus 1) ∷ at_least (pos 0) (minus 1) (pos 1) ∷ []) ∷ (zero (minus 1) (pos 1) (minus 2)
    ∷ at_least (pos 1) (pos 0) (pos 1) ∷ at_least (minus 1) (pos 0) (pos 0) ∷ at_least (pos 0) (pos 1) (minus 1)
    ∷ at_least (pos 0) (minus 1) (pos 2) ∷ []) ∷ (zero (minus 1) (pos 2) (minus 4) ∷ at_least (pos 1) (pos 0) (pos 2)
    ∷ at_least (minus 1) (pos 0) (pos 0) ∷ at_least (pos 0) (pos 1) (minus 1) ∷ at_least (pos 0) (minus 1) (pos 2) ∷ [])
    ∷ (zero (pos 3) (pos 4) (pos 2) ∷ at_least (pos 1) (pos 0) (pos 2) ∷ at_least (minus 1) (pos 0) (pos 2)
    ∷ at_least (pos 0) (pos 1) (pos 2) ∷ at_least (pos 0) (minus 1) (pos 1) ∷ []) ∷ (zero (pos 3) (pos 1) (minus 4)
    ∷ at_least (pos 1) (pos 0) (minus 1) ∷ at_least (minus 1) (pos 0) (pos 2) ∷ at_least (pos 0) (pos 1) (pos 2)
    ∷ at_least (pos 0) (minus 1) (pos 1) ∷ []) ∷ []) ∷ []
unfolding feature_at envelope_of has_point parts_allow pair_allows parts_of shadow_of flat_by with_bound pair_by is_above
line_must_be_covered_by_boundary_of_3 = refl

-- 1 of: 1 LINESTRING (3 3, 0 3, 3 3)
abbrev map_line_must_be_covered_by_boundary_of_4 : List Feature
map_line_must_be_covered_by_boundary_of_4 =
    line 1 1 ((at (pos 3) (pos 3) ∷ at (pos 0) (pos 3) ∷ at (pos 3) (pos 3) ∷ []) ∷ [])
    ∷ []

line_must_be_covered_by_boundary_of_4 : cut rule.LineMustBeCoveredByBoundaryOf 1 2 map_line_must_be_covered_by_boundary_of_4 1
    ≡ found 0 ((zero (pos 0) (pos 3) (minus 9) ∷ at_least (pos 1) (pos 0) (pos 0) ∷ at_least (minus 1) (pos 0) (pos 3)
    ∷ at_least (pos 0) (pos 1) (minus 3) ∷ at_least (pos 0) (minus 1) (pos 3) ∷ []) ∷ (zero (pos 0) (pos 3) (minus 9)
    ∷ at_least (pos 1) (pos 0) (pos 0) ∷ at_least (minus 1) (pos 0) (pos 3) ∷ at_least (pos 0) (pos 1) (minus 3)
    ∷ at_least (pos 0) (minus 1) (pos 3) ∷ []) ∷ []) ∷ []
unfolding feature_at envelope_of has_point parts_allow pair_allows parts_of shadow_of flat_by with_bound pair_by is_above
line_must_be_covered_by_boundary_of_4 = refl

-- 1 of: 1 LINESTRING (0 1, 2 2)
abbrev map_line_endpoint_must_be_covered_by_1 : List Feature
map_line_endpoint_must_be_covered_by_1 =
    line 1 1 ((at (pos 0) (pos 1) ∷ at (pos 2) (pos 2) ∷ []) ∷ [])
    ∷ []

line_endpoint_must_be_covered_by_1 : cut rule.LineEndpointMustBeCoveredBy 1 2 map_line_endpoint_must_be_covered_by_1 1
    ≡ found 0 ((zero (pos 1) (pos 0) (pos 0) ∷ zero (pos 0) (pos 1) (minus 1) ∷ []) ∷ (zero (pos 1) (pos 0) (minus 2)
    ∷ zero (pos 0) (pos 1) (minus 2) ∷ []) ∷ []) ∷ []
unfolding feature_at envelope_of has_point parts_allow pair_allows parts_of shadow_of flat_by with_bound pair_by is_above
line_endpoint_must_be_covered_by_1 = refl

-- 1 of: 1 MULTILINESTRING ((2 -1, -1 1, 2 0, 2 -1), (-2 0, 1 2, -1 0))
abbrev map_line_endpoint_must_be_covered_by_2 : List Feature
map_line_endpoint_must_be_covered_by_2 =
    line 1 1 ((at (pos 2) (minus 1) ∷ at (minus 1) (pos 1) ∷ at (pos 2) (pos 0) ∷ at (pos 2) (minus 1) ∷ []) ∷ (at (minus 2) (pos 0)
    ∷ at (pos 1) (pos 2) ∷ at (minus 1) (pos 0) ∷ []) ∷ [])
    ∷ []

line_endpoint_must_be_covered_by_2 : cut rule.LineEndpointMustBeCoveredBy 1 2 map_line_endpoint_must_be_covered_by_2 1
    ≡ found 0 ((zero (pos 1) (pos 0) (minus 2) ∷ zero (pos 0) (pos 1) (pos 1) ∷ []) ∷ (zero (pos 1) (pos 0) (pos 2)
    ∷ zero (pos 0) (pos 1) (pos 0) ∷ []) ∷ (zero (pos 1) (pos 0) (pos 1) ∷ zero (pos 0) (pos 1) (pos 0) ∷ []) ∷ []) ∷ []
unfolding feature_at envelope_of has_point parts_allow pair_allows parts_of shadow_of flat_by with_bound pair_by is_above
line_endpoint_must_be_covered_by_2 = refl

-- 1 of: 1 MULTILINESTRING ((-1 0, 0 2), (0 2, 0 -2, 0 2, 0 0)); 2 POINT (-1 1)
abbrev map_line_endpoint_must_be_covered_by_3 : List Feature
map_line_endpoint_must_be_covered_by_3 =
    line 1 1 ((at (minus 1) (pos 0) ∷ at (pos 0) (pos 2) ∷ []) ∷ (at (pos 0) (pos 2) ∷ at (pos 0) (minus 2) ∷ at (pos 0) (pos 2)
    ∷ at (pos 0) (pos 0) ∷ []) ∷ [])
    ∷ point 2 2 (at (minus 1) (pos 1))
    ∷ []

line_endpoint_must_be_covered_by_3 : cut rule.LineEndpointMustBeCoveredBy 1 2 map_line_endpoint_must_be_covered_by_3 1
    ≡ found 0 ((zero (pos 1) (pos 0) (pos 1) ∷ zero (pos 0) (pos 1) (pos 0) ∷ []) ∷ (zero (pos 1) (pos 0) (pos 0)
    ∷ zero (pos 0) (pos 1) (minus 2) ∷ []) ∷ (zero (pos 1) (pos 0) (pos 0) ∷ zero (pos 0) (pos 1) (pos 0) ∷ []) ∷ []) ∷ []
unfolding feature_at envelope_of has_point parts_allow pair_allows parts_of shadow_of flat_by with_bound pair_by is_above
line_endpoint_must_be_covered_by_3 = refl

-- 1 of: 1 LINESTRING (0 2, 1 -1, 0 2, -2 -1); 2 POINT (-2 -1)
abbrev map_line_endpoint_must_be_covered_by_4 : List Feature
map_line_endpoint_must_be_covered_by_4 =
    line 1 1 ((at (pos 0) (pos 2) ∷ at (pos 1) (minus 1) ∷ at (pos 0) (pos 2) ∷ at (minus 2) (minus 1) ∷ []) ∷ [])
    ∷ point 2 2 (at (minus 2) (minus 1))
    ∷ []

line_endpoint_must_be_covered_by_4 : cut rule.LineEndpointMustBeCoveredBy 1 2 map_line_endpoint_must_be_covered_by_4 1
    ≡ found 0 ((zero (pos 1) (pos 0) (pos 0) ∷ zero (pos 0) (pos 1) (minus 2) ∷ []) ∷ []) ∷ []
unfolding feature_at envelope_of has_point parts_allow pair_allows parts_of shadow_of flat_by with_bound pair_by is_above
line_endpoint_must_be_covered_by_4 = refl

-- 1 of: 1 LINESTRING (-2 0, 1 0, -2 0)
abbrev map_line_must_not_self_overlap_1 : List Feature
map_line_must_not_self_overlap_1 =
    line 1 1 ((at (minus 2) (pos 0) ∷ at (pos 1) (pos 0) ∷ at (minus 2) (pos 0) ∷ []) ∷ [])
    ∷ []

line_must_not_self_overlap_1 : cut rule.LineMustNotSelfOverlap 1 0 map_line_must_not_self_overlap_1 1
    ≡ found 0 ((zero (pos 0) (pos 3) (pos 0) ∷ at_least (pos 1) (pos 0) (pos 2) ∷ at_least (minus 1) (pos 0) (pos 1)
    ∷ at_least (pos 0) (pos 1) (pos 0) ∷ at_least (pos 0) (minus 1) (pos 0) ∷ []) ∷ []) ∷ []
unfolding feature_at envelope_of has_point parts_allow pair_allows parts_of shadow_of flat_by with_bound pair_by is_above
line_must_not_self_overlap_1 = refl

-- 1 of: 1 MULTILINESTRING ((-1 -2, -1 0), (-2 1, 2 2), (-2 1, -2 0, -2 1), (-1 0, -1 -2))
abbrev map_line_must_not_self_overlap_2 : List Feature
map_line_must_not_self_overlap_2 =
    line 1 1 ((at (minus 1) (minus 2) ∷ at (minus 1) (pos 0) ∷ []) ∷ (at (minus 2) (pos 1) ∷ at (pos 2) (pos 2) ∷ [])
    ∷ (at (minus 2) (pos 1) ∷ at (minus 2) (pos 0) ∷ at (minus 2) (pos 1) ∷ []) ∷ (at (minus 1) (pos 0) ∷ at (minus 1) (minus 2) ∷ [])
    ∷ [])
    ∷ []

line_must_not_self_overlap_2 : cut rule.LineMustNotSelfOverlap 1 0 map_line_must_not_self_overlap_2 1
    ≡ found 0 ((zero (minus 2) (pos 0) (minus 2) ∷ at_least (pos 1) (pos 0) (pos 1) ∷ at_least (minus 1) (pos 0) (minus 1)
    ∷ at_least (pos 0) (pos 1) (pos 2) ∷ at_least (pos 0) (minus 1) (pos 0) ∷ []) ∷ (zero (minus 1) (pos 0) (minus 2)
    ∷ at_least (pos 1) (pos 0) (pos 2) ∷ at_least (minus 1) (pos 0) (minus 2) ∷ at_least (pos 0) (pos 1) (pos 0)
    ∷ at_least (pos 0) (minus 1) (pos 1) ∷ []) ∷ []) ∷ []
unfolding feature_at envelope_of has_point parts_allow pair_allows parts_of shadow_of flat_by with_bound pair_by is_above
line_must_not_self_overlap_2 = refl

-- 1 of: 1 LINESTRING (-3 -1, 0 -2, -3 -1)
abbrev map_line_must_not_self_overlap_3 : List Feature
map_line_must_not_self_overlap_3 =
    line 1 1 ((at (minus 3) (minus 1) ∷ at (pos 0) (minus 2) ∷ at (minus 3) (minus 1) ∷ []) ∷ [])
    ∷ []

line_must_not_self_overlap_3 : cut rule.LineMustNotSelfOverlap 1 0 map_line_must_not_self_overlap_3 1
    ≡ found 0 ((zero (pos 1) (pos 3) (pos 6) ∷ at_least (pos 1) (pos 0) (pos 3) ∷ at_least (minus 1) (pos 0) (pos 0)
    ∷ at_least (pos 0) (pos 1) (pos 2) ∷ at_least (pos 0) (minus 1) (minus 1) ∷ []) ∷ []) ∷ []
unfolding feature_at envelope_of has_point parts_allow pair_allows parts_of shadow_of flat_by with_bound pair_by is_above
line_must_not_self_overlap_3 = refl

-- 1 of: 1 LINESTRING (-1 -2, -2 -2, -1 0); 1 LINESTRING (1 0, -2 -2, -1 -2, -2 -2); 1 LINESTRING (-2 -2, -1 -2, 1 -1, -2 -1, -1 -2,
-- -2 -2)
abbrev map_line_must_not_self_overlap_4 : List Feature
map_line_must_not_self_overlap_4 =
    line 1 1 ((at (minus 1) (minus 2) ∷ at (minus 2) (minus 2) ∷ at (minus 1) (pos 0) ∷ []) ∷ [])
    ∷ line 2 1 ((at (pos 1) (pos 0) ∷ at (minus 2) (minus 2) ∷ at (minus 1) (minus 2) ∷ at (minus 2) (minus 2) ∷ []) ∷ [])
    ∷ line 3 1 ((at (minus 2) (minus 2) ∷ at (minus 1) (minus 2) ∷ at (pos 1) (minus 1) ∷ at (minus 2) (minus 1) ∷ at (minus 1) (minus 2)
    ∷ at (minus 2) (minus 2) ∷ []) ∷ [])
    ∷ []

line_must_not_self_overlap_4 : cut rule.LineMustNotSelfOverlap 1 0 map_line_must_not_self_overlap_4 1 ≡ []
unfolding feature_at envelope_of has_point parts_allow pair_allows parts_of shadow_of flat_by with_bound pair_by is_above
line_must_not_self_overlap_4 = refl

-- 1 of: 1 LINESTRING (0 -2, 1 3, 0 -2)
abbrev map_line_must_not_self_intersect_1 : List Feature
map_line_must_not_self_intersect_1 =
    line 1 1 ((at (pos 0) (minus 2) ∷ at (pos 1) (pos 3) ∷ at (pos 0) (minus 2) ∷ []) ∷ [])
    ∷ []

line_must_not_self_intersect_1 : cut rule.LineMustNotSelfIntersect 1 0 map_line_must_not_self_intersect_1 1
    ≡ found 0 ((zero (minus 5) (pos 1) (pos 2) ∷ at_least (pos 1) (pos 0) (pos 0) ∷ at_least (minus 1) (pos 0) (pos 1)
    ∷ at_least (pos 0) (pos 1) (pos 2) ∷ at_least (pos 0) (minus 1) (pos 3) ∷ over (pos 1) (pos 0) (pos 0) ∷ []) ∷ []) ∷ []
unfolding feature_at envelope_of has_point parts_allow pair_allows parts_of shadow_of flat_by with_bound pair_by is_above
line_must_not_self_intersect_1 = refl

-- 1 of: 1 MULTILINESTRING ((-2 0, 1 3, -2 0, 1 3), (-1 0, 1 3, 2 -3, -1 0)); 1 LINESTRING (1 3, -2 -3, -2 0, 0 2)
abbrev map_line_must_not_self_intersect_2 : List Feature
map_line_must_not_self_intersect_2 =
    line 1 1 ((at (minus 2) (pos 0) ∷ at (pos 1) (pos 3) ∷ at (minus 2) (pos 0) ∷ at (pos 1) (pos 3) ∷ []) ∷ (at (minus 1) (pos 0)
    ∷ at (pos 1) (pos 3) ∷ at (pos 2) (minus 3) ∷ at (minus 1) (pos 0) ∷ []) ∷ [])
    ∷ line 2 1 ((at (pos 1) (pos 3) ∷ at (minus 2) (minus 3) ∷ at (minus 2) (pos 0) ∷ at (pos 0) (pos 2) ∷ []) ∷ [])
    ∷ []

line_must_not_self_intersect_2 : cut rule.LineMustNotSelfIntersect 1 0 map_line_must_not_self_intersect_2 1
    ≡ found 0 ((zero (minus 3) (pos 3) (minus 6) ∷ at_least (pos 1) (pos 0) (pos 2) ∷ at_least (minus 1) (pos 0) (pos 1)
    ∷ at_least (pos 0) (pos 1) (pos 0) ∷ at_least (pos 0) (minus 1) (pos 3) ∷ over (pos 1) (pos 0) (pos 2)
    ∷ over (minus 1) (pos 0) (pos 1) ∷ []) ∷ (zero (minus 3) (pos 3) (minus 6) ∷ at_least (pos 1) (pos 0) (pos 2)
    ∷ at_least (minus 1) (pos 0) (pos 1) ∷ at_least (pos 0) (pos 1) (pos 0) ∷ at_least (pos 0) (minus 1) (pos 3)
    ∷ over (pos 1) (pos 0) (pos 2) ∷ over (minus 1) (pos 0) (pos 1) ∷ []) ∷ (zero (minus 3) (pos 3) (minus 6)
    ∷ at_least (pos 1) (pos 0) (pos 2) ∷ at_least (minus 1) (pos 0) (pos 1) ∷ at_least (pos 0) (pos 1) (pos 0)
    ∷ at_least (pos 0) (minus 1) (pos 3) ∷ over (pos 1) (pos 0) (pos 2) ∷ over (minus 1) (pos 0) (pos 1) ∷ []) ∷ []) ∷ []
unfolding feature_at envelope_of has_point parts_allow pair_allows parts_of shadow_of flat_by with_bound pair_by is_above
line_must_not_self_intersect_2 = refl

-- 1 of: 1 MULTILINESTRING ((-2 1, 1 0), (-2 1, 1 2, -2 1), (1 2, -2 1)); 1 LINESTRING (-2 1, -1 2); 1 LINESTRING (2 0, 0 0)
abbrev map_line_must_not_self_intersect_3 : List Feature
map_line_must_not_self_intersect_3 =
    line 1 1 ((at (minus 2) (pos 1) ∷ at (pos 1) (pos 0) ∷ []) ∷ (at (minus 2) (pos 1) ∷ at (pos 1) (pos 2) ∷ at (minus 2) (pos 1) ∷ [])
    ∷ (at (pos 1) (pos 2) ∷ at (minus 2) (pos 1) ∷ []) ∷ [])
    ∷ line 2 1 ((at (minus 2) (pos 1) ∷ at (minus 1) (pos 2) ∷ []) ∷ [])
    ∷ line 3 1 ((at (pos 2) (pos 0) ∷ at (pos 0) (pos 0) ∷ []) ∷ [])
    ∷ []

line_must_not_self_intersect_3 : cut rule.LineMustNotSelfIntersect 1 0 map_line_must_not_self_intersect_3 1
    ≡ found 0 ((zero (minus 1) (pos 3) (minus 5) ∷ at_least (pos 1) (pos 0) (pos 2) ∷ at_least (minus 1) (pos 0) (pos 1)
    ∷ at_least (pos 0) (pos 1) (minus 1) ∷ at_least (pos 0) (minus 1) (pos 2) ∷ over (pos 1) (pos 0) (pos 2)
    ∷ over (minus 1) (pos 0) (pos 1) ∷ []) ∷ (zero (minus 1) (pos 3) (minus 5) ∷ at_least (pos 1) (pos 0) (pos 2)
    ∷ at_least (minus 1) (pos 0) (pos 1) ∷ at_least (pos 0) (pos 1) (minus 1) ∷ at_least (pos 0) (minus 1) (pos 2)
    ∷ over (pos 1) (pos 0) (pos 2) ∷ over (minus 1) (pos 0) (pos 1) ∷ []) ∷ (zero (minus 1) (pos 3) (minus 5)
    ∷ at_least (pos 1) (pos 0) (pos 2) ∷ at_least (minus 1) (pos 0) (pos 1) ∷ at_least (pos 0) (pos 1) (minus 1)
    ∷ at_least (pos 0) (minus 1) (pos 2) ∷ over (pos 1) (pos 0) (pos 2) ∷ over (minus 1) (pos 0) (pos 1) ∷ []) ∷ []) ∷ []
unfolding feature_at envelope_of has_point parts_allow pair_allows parts_of shadow_of flat_by with_bound pair_by is_above
line_must_not_self_intersect_3 = refl

-- 2 of: 1 MULTILINESTRING ((2 2, -1 0), (2 2, -1 0, 2 2, 0 1, 2 2)); 1 LINESTRING (2 2, 1 2)
abbrev map_line_must_not_self_intersect_4 : List Feature
map_line_must_not_self_intersect_4 =
    line 1 1 ((at (pos 2) (pos 2) ∷ at (minus 1) (pos 0) ∷ []) ∷ (at (pos 2) (pos 2) ∷ at (minus 1) (pos 0) ∷ at (pos 2) (pos 2)
    ∷ at (pos 0) (pos 1) ∷ at (pos 2) (pos 2) ∷ []) ∷ [])
    ∷ line 2 1 ((at (pos 2) (pos 2) ∷ at (pos 1) (pos 2) ∷ []) ∷ [])
    ∷ []

line_must_not_self_intersect_4 : cut rule.LineMustNotSelfIntersect 1 0 map_line_must_not_self_intersect_4 2 ≡ []
unfolding feature_at envelope_of has_point parts_allow pair_allows parts_of shadow_of flat_by with_bound pair_by is_above
line_must_not_self_intersect_4 = refl

-- 1 of: 1 MULTILINESTRING ((2 -2, 0 1), (-2 -1, 0 1, 1 2, -2 -1))
abbrev map_line_must_be_single_part_1 : List Feature
map_line_must_be_single_part_1 =
    line 1 1 ((at (pos 2) (minus 2) ∷ at (pos 0) (pos 1) ∷ []) ∷ (at (minus 2) (minus 1) ∷ at (pos 0) (pos 1) ∷ at (pos 1) (pos 2)
    ∷ at (minus 2) (minus 1) ∷ []) ∷ [])
    ∷ []

line_must_be_single_part_1 : cut rule.LineMustBeSinglePart 1 0 map_line_must_be_single_part_1 1 ≡ whole ∷ []
unfolding feature_at envelope_of has_point parts_allow pair_allows parts_of shadow_of flat_by with_bound pair_by is_above
line_must_be_single_part_1 = refl

-- 1 of: 1 MULTILINESTRING ((3 -2, 1 3), (1 3, -2 -3)); 1 LINESTRING (-2 -3, 0 0)
abbrev map_line_must_be_single_part_2 : List Feature
map_line_must_be_single_part_2 =
    line 1 1 ((at (pos 3) (minus 2) ∷ at (pos 1) (pos 3) ∷ []) ∷ (at (pos 1) (pos 3) ∷ at (minus 2) (minus 3) ∷ []) ∷ [])
    ∷ line 2 1 ((at (minus 2) (minus 3) ∷ at (pos 0) (pos 0) ∷ []) ∷ [])
    ∷ []

line_must_be_single_part_2 : cut rule.LineMustBeSinglePart 1 0 map_line_must_be_single_part_2 1 ≡ whole ∷ []
unfolding feature_at envelope_of has_point parts_allow pair_allows parts_of shadow_of flat_by with_bound pair_by is_above
line_must_be_single_part_2 = refl

-- 1 of: 1 MULTILINESTRING ((3 -1, 1 3, 3 -1), (-3 -2, 3 -1, 1 3, 2 2)); 1 LINESTRING (3 -1, 3 2)
abbrev map_line_must_be_single_part_3 : List Feature
map_line_must_be_single_part_3 =
    line 1 1 ((at (pos 3) (minus 1) ∷ at (pos 1) (pos 3) ∷ at (pos 3) (minus 1) ∷ []) ∷ (at (minus 3) (minus 2) ∷ at (pos 3) (minus 1)
    ∷ at (pos 1) (pos 3) ∷ at (pos 2) (pos 2) ∷ []) ∷ [])
    ∷ line 2 1 ((at (pos 3) (minus 1) ∷ at (pos 3) (pos 2) ∷ []) ∷ [])
    ∷ []

line_must_be_single_part_3 : cut rule.LineMustBeSinglePart 1 0 map_line_must_be_single_part_3 1 ≡ whole ∷ []
unfolding feature_at envelope_of has_point parts_allow pair_allows parts_of shadow_of flat_by with_bound pair_by is_above
line_must_be_single_part_3 = refl

-- 1 of: 1 LINESTRING (-1 1, -1 0, -2 0); 1 LINESTRING (-1 -2, 0 1, -2 -1, 0 1, -1 -2)
abbrev map_line_must_be_single_part_4 : List Feature
map_line_must_be_single_part_4 =
    line 1 1 ((at (minus 1) (pos 1) ∷ at (minus 1) (pos 0) ∷ at (minus 2) (pos 0) ∷ []) ∷ [])
    ∷ line 2 1 ((at (minus 1) (minus 2) ∷ at (pos 0) (pos 1) ∷ at (minus 2) (minus 1) ∷ at (pos 0) (pos 1) ∷ at (minus 1) (minus 2) ∷ [])
    ∷ [])
    ∷ []

line_must_be_single_part_4 : cut rule.LineMustBeSinglePart 1 0 map_line_must_be_single_part_4 1 ≡ []
unfolding feature_at envelope_of has_point parts_allow pair_allows parts_of shadow_of flat_by with_bound pair_by is_above
line_must_be_single_part_4 = refl

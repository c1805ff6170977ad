-- Cuttings of the rules on points, on small maps, as an independent program cuts them: they fix the order and the form of the findings'
-- cells.
use Rattle.std.proofs.Common.{◌≡◌, pos, List, [], ◌∷◌, refl}
use Rattle.plane_terms.specs.Shape.{envelope_of}
use Rattle.plane_terms.specs.Decide.{has_point, parts_allow, pair_allows, parts_of, shadow_of, flat_by, with_bound, pair_by, is_above}
use Rattle.rule_words.specs.declared.rule_kind.RuleKind.TheVariants as rule
use Rattle.topology_terms.specs.Feature.{Feature, feature_at}
use Rattle.topology_terms.proofs.Rows.Maps.{minus, at, point, line, polygon, zero, found, cut}

-- 1 of: 1 POINT (2 0); 1 POINT (2 0)
abbrev map_point_must_be_disjoint_1 : List Feature
map_point_must_be_disjoint_1 =
    point 1 1 (at (pos 2) (pos 0))
    ∷ point 2 1 (at (pos 2) (pos 0))
    ∷ []

point_must_be_disjoint_1 : cut rule.PointMustBeDisjoint 1 0 map_point_must_be_disjoint_1 1
    ≡ found 2 ((zero (pos 1) (pos 0) (minus 2) ∷ zero (pos 0) (pos 1) (pos 0) ∷ []) ∷ []) ∷ []
unfolding feature_at envelope_of has_point parts_allow pair_allows parts_of shadow_of flat_by with_bound pair_by is_above
point_must_be_disjoint_1 = refl

-- 1 of: 1 POINT (2 2); 1 POINT (2 2)
abbrev map_point_must_be_disjoint_2 : List Feature
map_point_must_be_disjoint_2 =
    point 1 1 (at (pos 2) (pos 2))
    ∷ point 2 1 (at (pos 2) (pos 2))
    ∷ []

point_must_be_disjoint_2 : cut rule.PointMustBeDisjoint 1 0 map_point_must_be_disjoint_2 1
    ≡ found 2 ((zero (pos 1) (pos 0) (minus 2) ∷ zero (pos 0) (pos 1) (minus 2) ∷ []) ∷ []) ∷ []
unfolding feature_at envelope_of has_point parts_allow pair_allows parts_of shadow_of flat_by with_bound pair_by is_above
point_must_be_disjoint_2 = refl

-- 1 of: 1 POINT (-2 1); 1 POINT (-2 1)
abbrev map_point_must_be_disjoint_3 : List Feature
map_point_must_be_disjoint_3 =
    point 1 1 (at (minus 2) (pos 1))
    ∷ point 2 1 (at (minus 2) (pos 1))
    ∷ []

point_must_be_disjoint_3 : cut rule.PointMustBeDisjoint 1 0 map_point_must_be_disjoint_3 1
    ≡ found 2 ((zero (pos 1) (pos 0) (pos 2) ∷ zero (pos 0) (pos 1) (minus 1) ∷ []) ∷ []) ∷ []
unfolding feature_at envelope_of has_point parts_allow pair_allows parts_of shadow_of flat_by with_bound pair_by is_above
point_must_be_disjoint_3 = refl

-- 1 of: 1 POINT (2 0)
abbrev map_point_must_be_disjoint_4 : List Feature
map_point_must_be_disjoint_4 =
    point 1 1 (at (pos 2) (pos 0))
    ∷ []

point_must_be_disjoint_4 : cut rule.PointMustBeDisjoint 1 0 map_point_must_be_disjoint_4 1 ≡ []
unfolding feature_at envelope_of has_point parts_allow pair_allows parts_of shadow_of flat_by with_bound pair_by is_above
point_must_be_disjoint_4 = refl

-- 1 of: 1 POINT (-3 3)
abbrev map_point_must_coincide_with_1 : List Feature
map_point_must_coincide_with_1 =
    point 1 1 (at (minus 3) (pos 3))
    ∷ []

point_must_coincide_with_1 : cut rule.PointMustCoincideWith 1 2 map_point_must_coincide_with_1 1
    ≡ found 0 ((zero (pos 1) (pos 0) (pos 3) ∷ zero (pos 0) (pos 1) (minus 3) ∷ []) ∷ []) ∷ []
unfolding feature_at envelope_of has_point parts_allow pair_allows parts_of shadow_of flat_by with_bound pair_by is_above
point_must_coincide_with_1 = refl

-- 1 of: 1 POINT (-2 3)
abbrev map_point_must_coincide_with_2 : List Feature
map_point_must_coincide_with_2 =
    point 1 1 (at (minus 2) (pos 3))
    ∷ []

point_must_coincide_with_2 : cut rule.PointMustCoincideWith 1 2 map_point_must_coincide_with_2 1
    ≡ found 0 ((zero (pos 1) (pos 0) (pos 2) ∷ zero (pos 0) (pos 1) (minus 3) ∷ []) ∷ []) ∷ []
unfolding feature_at envelope_of has_point parts_allow pair_allows parts_of shadow_of flat_by with_bound pair_by is_above
point_must_coincide_with_2 = refl

-- 1 of: 1 POINT (-3 2)
abbrev map_point_must_coincide_with_3 : List Feature
map_point_must_coincide_with_3 =
    point 1 1 (at (minus 3) (pos 2))
    ∷ []

point_must_coincide_with_3 : cut rule.PointMustCoincideWith 1 2 map_point_must_coincide_with_3 1
    ≡ found 0 ((zero (pos 1) (pos 0) (pos 3) ∷ zero (pos 0) (pos 1) (minus 2) ∷ []) ∷ []) ∷ []
unfolding feature_at envelope_of has_point parts_allow pair_allows parts_of shadow_of flat_by with_bound pair_by is_above
point_must_coincide_with_3 = refl

-- 1 of: 1 POINT (-1 -3)
abbrev map_point_must_coincide_with_4 : List Feature
map_point_must_coincide_with_4 =
    point 1 1 (at (minus 1) (minus 3))
    ∷ []

point_must_coincide_with_4 : cut rule.PointMustCoincideWith 1 2 map_point_must_coincide_with_4 1
    ≡ found 0 ((zero (pos 1) (pos 0) (pos 1) ∷ zero (pos 0) (pos 1) (pos 3) ∷ []) ∷ []) ∷ []
unfolding feature_at envelope_of has_point parts_allow pair_allows parts_of shadow_of flat_by with_bound pair_by is_above
point_must_coincide_with_4 = refl

-- 1 of: 1 POINT (0 0)
abbrev map_point_must_be_properly_inside_1 : List Feature
map_point_must_be_properly_inside_1 =
    point 1 1 (at (pos 0) (pos 0))
    ∷ []

point_must_be_properly_inside_1 : cut rule.PointMustBeProperlyInside 1 2 map_point_must_be_properly_inside_1 1
    ≡ found 0 ((zero (pos 1) (pos 0) (pos 0) ∷ zero (pos 0) (pos 1) (pos 0) ∷ []) ∷ []) ∷ []
unfolding feature_at envelope_of has_point parts_allow pair_allows parts_of shadow_of flat_by with_bound pair_by is_above
point_must_be_properly_inside_1 = refl

-- 1 of: 1 POINT (-3 -1)
abbrev map_point_must_be_properly_inside_2 : List Feature
map_point_must_be_properly_inside_2 =
    point 1 1 (at (minus 3) (minus 1))
    ∷ []

point_must_be_properly_inside_2 : cut rule.PointMustBeProperlyInside 1 2 map_point_must_be_properly_inside_2 1
    ≡ found 0 ((zero (pos 1) (pos 0) (pos 3) ∷ zero (pos 0) (pos 1) (pos 1) ∷ []) ∷ []) ∷ []
unfolding feature_at envelope_of has_point parts_allow pair_allows parts_of shadow_of flat_by with_bound pair_by is_above
point_must_be_properly_inside_2 = refl

-- 1 of: 1 POINT (-2 -2)
abbrev map_point_must_be_properly_inside_3 : List Feature
map_point_must_be_properly_inside_3 =
    point 1 1 (at (minus 2) (minus 2))
    ∷ []

point_must_be_properly_inside_3 : cut rule.PointMustBeProperlyInside 1 2 map_point_must_be_properly_inside_3 1
    ≡ found 0 ((zero (pos 1) (pos 0) (pos 2) ∷ zero (pos 0) (pos 1) (pos 2) ∷ []) ∷ []) ∷ []
unfolding feature_at envelope_of has_point parts_allow pair_allows parts_of shadow_of flat_by with_bound pair_by is_above
point_must_be_properly_inside_3 = refl

-- 2 of: 1 POINT (-1 1); 1 POINT (-1 1)
abbrev map_point_must_be_properly_inside_4 : List Feature
map_point_must_be_properly_inside_4 =
    point 1 1 (at (minus 1) (pos 1))
    ∷ point 2 1 (at (minus 1) (pos 1))
    ∷ []

point_must_be_properly_inside_4 : cut rule.PointMustBeProperlyInside 1 2 map_point_must_be_properly_inside_4 2
    ≡ found 0 ((zero (pos 1) (pos 0) (pos 1) ∷ zero (pos 0) (pos 1) (minus 1) ∷ []) ∷ []) ∷ []
unfolding feature_at envelope_of has_point parts_allow pair_allows parts_of shadow_of flat_by with_bound pair_by is_above
point_must_be_properly_inside_4 = refl

-- 1 of: 1 POINT (0 0)
abbrev map_point_must_be_covered_by_boundary_of_1 : List Feature
map_point_must_be_covered_by_boundary_of_1 =
    point 1 1 (at (pos 0) (pos 0))
    ∷ []

point_must_be_covered_by_boundary_of_1 : cut rule.PointMustBeCoveredByBoundaryOf 1 2 map_point_must_be_covered_by_boundary_of_1 1
    ≡ found 0 ((zero (pos 1) (pos 0) (pos 0) ∷ zero (pos 0) (pos 1) (pos 0) ∷ []) ∷ []) ∷ []
unfolding feature_at envelope_of has_point parts_allow pair_allows parts_of shadow_of flat_by with_bound pair_by is_above
point_must_be_covered_by_boundary_of_1 = refl

-- 1 of: 1 POINT (1 0)
abbrev map_point_must_be_covered_by_boundary_of_2 : List Feature
map_point_must_be_covered_by_boundary_of_2 =
    point 1 1 (at (pos 1) (pos 0))
    ∷ []

point_must_be_covered_by_boundary_of_2 : cut rule.PointMustBeCoveredByBoundaryOf 1 2 map_point_must_be_covered_by_boundary_of_2 1
    ≡ found 0 ((zero (pos 1) (pos 0) (minus 1) ∷ zero (pos 0) (pos 1) (pos 0) ∷ []) ∷ []) ∷ []
unfolding feature_at envelope_of has_point parts_allow pair_allows parts_of shadow_of flat_by with_bound pair_by is_above
point_must_be_covered_by_boundary_of_2 = refl

-- 1 of: 1 POINT (2 0)
abbrev map_point_must_be_covered_by_boundary_of_3 : List Feature
map_point_must_be_covered_by_boundary_of_3 =
    point 1 1 (at (pos 2) (pos 0))
    ∷ []

point_must_be_covered_by_boundary_of_3 : cut rule.PointMustBeCoveredByBoundaryOf 1 2 map_point_must_be_covered_by_boundary_of_3 1
    ≡ found 0 ((zero (pos 1) (pos 0) (minus 2) ∷ zero (pos 0) (pos 1) (pos 0) ∷ []) ∷ []) ∷ []
unfolding feature_at envelope_of has_point parts_allow pair_allows parts_of shadow_of flat_by with_bound pair_by is_above
point_must_be_covered_by_boundary_of_3 = refl

-- 2 of: 1 POINT (2 0); 1 POINT (2 0); 2 POLYGON ((-2 -2, 2 -2, 2 0, -2 0, -2 -2))
abbrev map_point_must_be_covered_by_boundary_of_4 : List Feature
map_point_must_be_covered_by_boundary_of_4 =
    point 1 1 (at (pos 2) (pos 0))
    ∷ point 2 1 (at (pos 2) (pos 0))
    ∷ polygon 3 2 (((at (minus 2) (minus 2) ∷ at (pos 2) (minus 2) ∷ at (pos 2) (pos 0) ∷ at (minus 2) (pos 0) ∷ []) ∷ []) ∷ [])
    ∷ []

point_must_be_covered_by_boundary_of_4 : cut rule.PointMustBeCoveredByBoundaryOf 1 2 map_point_must_be_covered_by_boundary_of_4 2 ≡ []
unfolding feature_at envelope_of has_point parts_allow pair_allows parts_of shadow_of flat_by with_bound pair_by is_above
point_must_be_covered_by_boundary_of_4 = refl

-- 1 of: 1 POINT (-1 2)
abbrev map_point_must_be_covered_by_line_1 : List Feature
map_point_must_be_covered_by_line_1 =
    point 1 1 (at (minus 1) (pos 2))
    ∷ []

point_must_be_covered_by_line_1 : cut rule.PointMustBeCoveredByLine 1 2 map_point_must_be_covered_by_line_1 1
    ≡ found 0 ((zero (pos 1) (pos 0) (pos 1) ∷ zero (pos 0) (pos 1) (minus 2) ∷ []) ∷ []) ∷ []
unfolding feature_at envelope_of has_point parts_allow pair_allows parts_of shadow_of flat_by with_bound pair_by is_above
point_must_be_covered_by_line_1 = refl

-- 1 of: 1 POINT (2 0)
abbrev map_point_must_be_covered_by_line_2 : List Feature
map_point_must_be_covered_by_line_2 =
    point 1 1 (at (pos 2) (pos 0))
    ∷ []

point_must_be_covered_by_line_2 : cut rule.PointMustBeCoveredByLine 1 2 map_point_must_be_covered_by_line_2 1
    ≡ found 0 ((zero (pos 1) (pos 0) (minus 2) ∷ zero (pos 0) (pos 1) (pos 0) ∷ []) ∷ []) ∷ []
unfolding feature_at envelope_of has_point parts_allow pair_allows parts_of shadow_of flat_by with_bound pair_by is_above
point_must_be_covered_by_line_2 = refl

-- 1 of: 1 POINT (-3 1); 1 POINT (2 0)
abbrev map_point_must_be_covered_by_line_3 : List Feature
map_point_must_be_covered_by_line_3 =
    point 1 1 (at (minus 3) (pos 1))
    ∷ point 2 1 (at (pos 2) (pos 0))
    ∷ []

point_must_be_covered_by_line_3 : cut rule.PointMustBeCoveredByLine 1 2 map_point_must_be_covered_by_line_3 1
    ≡ found 0 ((zero (pos 1) (pos 0) (pos 3) ∷ zero (pos 0) (pos 1) (minus 1) ∷ []) ∷ []) ∷ []
unfolding feature_at envelope_of has_point parts_allow pair_allows parts_of shadow_of flat_by with_bound pair_by is_above
point_must_be_covered_by_line_3 = refl

-- 1 of: 1 POINT (2 -1); 1 POINT (0 1)
abbrev map_point_must_be_covered_by_line_4 : List Feature
map_point_must_be_covered_by_line_4 =
    point 1 1 (at (pos 2) (minus 1))
    ∷ point 2 1 (at (pos 0) (pos 1))
    ∷ []

point_must_be_covered_by_line_4 : cut rule.PointMustBeCoveredByLine 1 2 map_point_must_be_covered_by_line_4 1
    ≡ found 0 ((zero (pos 1) (pos 0) (minus 2) ∷ zero (pos 0) (pos 1) (pos 1) ∷ []) ∷ []) ∷ []
unfolding feature_at envelope_of has_point parts_allow pair_allows parts_of shadow_of flat_by with_bound pair_by is_above
point_must_be_covered_by_line_4 = refl

-- 1 of: 1 POINT (1 0)
abbrev map_point_must_be_covered_by_endpoint_of_1 : List Feature
map_point_must_be_covered_by_endpoint_of_1 =
    point 1 1 (at (pos 1) (pos 0))
    ∷ []

point_must_be_covered_by_endpoint_of_1 : cut rule.PointMustBeCoveredByEndpointOf 1 2 map_point_must_be_covered_by_endpoint_of_1 1
    ≡ found 0 ((zero (pos 1) (pos 0) (minus 1) ∷ zero (pos 0) (pos 1) (pos 0) ∷ []) ∷ []) ∷ []
unfolding feature_at envelope_of has_point parts_allow pair_allows parts_of shadow_of flat_by with_bound pair_by is_above
point_must_be_covered_by_endpoint_of_1 = refl

-- 1 of: 1 POINT (1 2)
abbrev map_point_must_be_covered_by_endpoint_of_2 : List Feature
map_point_must_be_covered_by_endpoint_of_2 =
    point 1 1 (at (pos 1) (pos 2))
    ∷ []

point_must_be_covered_by_endpoint_of_2 : cut rule.PointMustBeCoveredByEndpointOf 1 2 map_point_must_be_covered_by_endpoint_of_2 1
    ≡ found 0 ((zero (pos 1) (pos 0) (minus 1) ∷ zero (pos 0) (pos 1) (minus 2) ∷ []) ∷ []) ∷ []
unfolding feature_at envelope_of has_point parts_allow pair_allows parts_of shadow_of flat_by with_bound pair_by is_above
point_must_be_covered_by_endpoint_of_2 = refl

-- 1 of: 1 POINT (2 2)
abbrev map_point_must_be_covered_by_endpoint_of_3 : List Feature
map_point_must_be_covered_by_endpoint_of_3 =
    point 1 1 (at (pos 2) (pos 2))
    ∷ []

point_must_be_covered_by_endpoint_of_3 : cut rule.PointMustBeCoveredByEndpointOf 1 2 map_point_must_be_covered_by_endpoint_of_3 1
    ≡ found 0 ((zero (pos 1) (pos 0) (minus 2) ∷ zero (pos 0) (pos 1) (minus 2) ∷ []) ∷ []) ∷ []
unfolding feature_at envelope_of has_point parts_allow pair_allows parts_of shadow_of flat_by with_bound pair_by is_above
point_must_be_covered_by_endpoint_of_3 = refl

-- 2 of: 1 POINT (1 3); 1 POINT (2 2); 2 LINESTRING (-2 -3, 2 2); 2 MULTILINESTRING ((1 2, 1 3), (2 2, 1 2, 0 1))
abbrev map_point_must_be_covered_by_endpoint_of_4 : List Feature
map_point_must_be_covered_by_endpoint_of_4 =
    point 1 1 (at (pos 1) (pos 3))
    ∷ point 2 1 (at (pos 2) (pos 2))
    ∷ line 3 2 ((at (minus 2) (minus 3) ∷ at (pos 2) (pos 2) ∷ []) ∷ [])
    ∷ line 4 2 ((at (pos 1) (pos 2) ∷ at (pos 1) (pos 3) ∷ []) ∷ (at (pos 2) (pos 2) ∷ at (pos 1) (pos 2) ∷ at (pos 0) (pos 1) ∷ []) ∷ [])
    ∷ []

point_must_be_covered_by_endpoint_of_4 : cut rule.PointMustBeCoveredByEndpointOf 1 2 map_point_must_be_covered_by_endpoint_of_4 2 ≡ []
unfolding feature_at envelope_of has_point parts_allow pair_allows parts_of shadow_of flat_by with_bound pair_by is_above
point_must_be_covered_by_endpoint_of_4 = refl

-- The table of the rules: for each its word, and the kinds of shape that it takes.
--
-- word_of k        the word by which lines, listings and saved projects name the rule
-- origin_of k      the kind of its subjects' class
-- dest_of k        the kind of its second class; None where it takes none
-- judges_either k  the subjects are the features of both classes, and not of the first alone
-- all_rules        the rules in the order of their numbers, once each
-- first_of_word w rules     the first of these rules whose word this is
--
-- Source: the ArcGIS topology rules poster, for the names; the words are its names in lower case, with `_` between.
use Rattle.std.specs.Prelude.{ℕ, Bool, true, false, List, [], ◌∷◌, Option, Some, None, codes, find, bytes_eq}
use Rattle.plane_terms.specs.declared.kind.Kind.{Kind}
use Rattle.plane_terms.specs.declared.kind.Kind.TheVariants as shapes
use Rattle.rule_words.specs.declared.rule_kind.RuleKind.{RuleKind}
use Rattle.rule_words.specs.declared.rule_kind.RuleKind.TheVariants as rule

abbrev pub word_of : RuleKind → List ℕ
word_of rule.PolygonMustNotOverlap = codes "polygon_must_not_overlap"
word_of rule.PolygonMustNotOverlapWith = codes "polygon_must_not_overlap_with"
word_of rule.PolygonMustNotHaveGaps = codes "polygon_must_not_have_gaps"
word_of rule.PolygonMustBeCoveredByFeatureClassOf = codes "polygon_must_be_covered_by_feature_class_of"
word_of rule.PolygonMustCoverEachOther = codes "polygon_must_cover_each_other"
word_of rule.PolygonBoundaryMustBeCoveredBy = codes "polygon_boundary_must_be_covered_by"
word_of rule.PolygonAreaBoundaryMustBeCoveredByBoundaryOf = codes "polygon_area_boundary_must_be_covered_by_boundary_of"
word_of rule.PolygonMustBeCoveredBy = codes "polygon_must_be_covered_by"
word_of rule.PolygonContainsPoint = codes "polygon_contains_point"
word_of rule.LineMustNotOverlap = codes "line_must_not_overlap"
word_of rule.LineMustNotOverlapWith = codes "line_must_not_overlap_with"
word_of rule.LineMustNotIntersect = codes "line_must_not_intersect"
word_of rule.LineMustNotIntersectOrTouchInterior = codes "line_must_not_intersect_or_touch_interior"
word_of rule.LineMustNotHaveDangles = codes "line_must_not_have_dangles"
word_of rule.LineMustNotHavePseudoNodes = codes "line_must_not_have_pseudo_nodes"
word_of rule.LineMustBeCoveredByFeatureClassOf = codes "line_must_be_covered_by_feature_class_of"
word_of rule.LineMustBeCoveredByBoundaryOf = codes "line_must_be_covered_by_boundary_of"
word_of rule.LineEndpointMustBeCoveredBy = codes "line_endpoint_must_be_covered_by"
word_of rule.LineMustNotSelfOverlap = codes "line_must_not_self_overlap"
word_of rule.LineMustNotSelfIntersect = codes "line_must_not_self_intersect"
word_of rule.LineMustBeSinglePart = codes "line_must_be_single_part"
word_of rule.PointMustBeDisjoint = codes "point_must_be_disjoint"
word_of rule.PointMustCoincideWith = codes "point_must_coincide_with"
word_of rule.PointMustBeProperlyInside = codes "point_must_be_properly_inside"
word_of rule.PointMustBeCoveredByBoundaryOf = codes "point_must_be_covered_by_boundary_of"
word_of rule.PointMustBeCoveredByLine = codes "point_must_be_covered_by_line"
word_of rule.PointMustBeCoveredByEndpointOf = codes "point_must_be_covered_by_endpoint_of"

abbrev pub origin_of : RuleKind → Kind
origin_of rule.PolygonMustNotOverlap = shapes.Polygon
origin_of rule.PolygonMustNotOverlapWith = shapes.Polygon
origin_of rule.PolygonMustNotHaveGaps = shapes.Polygon
origin_of rule.PolygonMustBeCoveredByFeatureClassOf = shapes.Polygon
origin_of rule.PolygonMustCoverEachOther = shapes.Polygon
origin_of rule.PolygonBoundaryMustBeCoveredBy = shapes.Polygon
origin_of rule.PolygonAreaBoundaryMustBeCoveredByBoundaryOf = shapes.Polygon
origin_of rule.PolygonMustBeCoveredBy = shapes.Polygon
origin_of rule.PolygonContainsPoint = shapes.Polygon
origin_of rule.LineMustNotOverlap = shapes.Line
origin_of rule.LineMustNotOverlapWith = shapes.Line
origin_of rule.LineMustNotIntersect = shapes.Line
origin_of rule.LineMustNotIntersectOrTouchInterior = shapes.Line
origin_of rule.LineMustNotHaveDangles = shapes.Line
origin_of rule.LineMustNotHavePseudoNodes = shapes.Line
origin_of rule.LineMustBeCoveredByFeatureClassOf = shapes.Line
origin_of rule.LineMustBeCoveredByBoundaryOf = shapes.Line
origin_of rule.LineEndpointMustBeCoveredBy = shapes.Line
origin_of rule.LineMustNotSelfOverlap = shapes.Line
origin_of rule.LineMustNotSelfIntersect = shapes.Line
origin_of rule.LineMustBeSinglePart = shapes.Line
origin_of rule.PointMustBeDisjoint = shapes.Point
origin_of rule.PointMustCoincideWith = shapes.Point
origin_of rule.PointMustBeProperlyInside = shapes.Point
origin_of rule.PointMustBeCoveredByBoundaryOf = shapes.Point
origin_of rule.PointMustBeCoveredByLine = shapes.Point
origin_of rule.PointMustBeCoveredByEndpointOf = shapes.Point

abbrev pub dest_of : RuleKind → Option Kind
dest_of rule.PolygonMustNotOverlap = None
dest_of rule.PolygonMustNotOverlapWith = Some shapes.Polygon
dest_of rule.PolygonMustNotHaveGaps = None
dest_of rule.PolygonMustBeCoveredByFeatureClassOf = Some shapes.Polygon
dest_of rule.PolygonMustCoverEachOther = Some shapes.Polygon
dest_of rule.PolygonBoundaryMustBeCoveredBy = Some shapes.Line
dest_of rule.PolygonAreaBoundaryMustBeCoveredByBoundaryOf = Some shapes.Polygon
dest_of rule.PolygonMustBeCoveredBy = Some shapes.Polygon
dest_of rule.PolygonContainsPoint = Some shapes.Point
dest_of rule.LineMustNotOverlap = None
dest_of rule.LineMustNotOverlapWith = Some shapes.Line
dest_of rule.LineMustNotIntersect = None
dest_of rule.LineMustNotIntersectOrTouchInterior = None
dest_of rule.LineMustNotHaveDangles = None
dest_of rule.LineMustNotHavePseudoNodes = None
dest_of rule.LineMustBeCoveredByFeatureClassOf = Some shapes.Line
dest_of rule.LineMustBeCoveredByBoundaryOf = Some shapes.Polygon
dest_of rule.LineEndpointMustBeCoveredBy = Some shapes.Point
dest_of rule.LineMustNotSelfOverlap = None
dest_of rule.LineMustNotSelfIntersect = None
dest_of rule.LineMustBeSinglePart = None
dest_of rule.PointMustBeDisjoint = None
dest_of rule.PointMustCoincideWith = Some shapes.Point
dest_of rule.PointMustBeProperlyInside = Some shapes.Polygon
dest_of rule.PointMustBeCoveredByBoundaryOf = Some shapes.Polygon
dest_of rule.PointMustBeCoveredByLine = Some shapes.Line
dest_of rule.PointMustBeCoveredByEndpointOf = Some shapes.Line

abbrev pub judges_either : RuleKind → Bool
judges_either rule.PolygonMustCoverEachOther = true
judges_either other = false

abbrev pub all_rules : List RuleKind
all_rules = rule.PolygonMustNotOverlap ∷ rule.PolygonMustNotOverlapWith ∷ rule.PolygonMustNotHaveGaps ∷
    rule.PolygonMustBeCoveredByFeatureClassOf ∷ rule.PolygonMustCoverEachOther ∷ rule.PolygonBoundaryMustBeCoveredBy ∷
    rule.PolygonAreaBoundaryMustBeCoveredByBoundaryOf ∷ rule.PolygonMustBeCoveredBy ∷ rule.PolygonContainsPoint ∷ rule.LineMustNotOverlap ∷
    rule.LineMustNotOverlapWith ∷ rule.LineMustNotIntersect ∷ rule.LineMustNotIntersectOrTouchInterior ∷ rule.LineMustNotHaveDangles ∷
    rule.LineMustNotHavePseudoNodes ∷ rule.LineMustBeCoveredByFeatureClassOf ∷ rule.LineMustBeCoveredByBoundaryOf ∷
    rule.LineEndpointMustBeCoveredBy ∷ rule.LineMustNotSelfOverlap ∷ rule.LineMustNotSelfIntersect ∷ rule.LineMustBeSinglePart ∷
    rule.PointMustBeDisjoint ∷ rule.PointMustCoincideWith ∷ rule.PointMustBeProperlyInside ∷ rule.PointMustBeCoveredByBoundaryOf ∷
    rule.PointMustBeCoveredByLine ∷ rule.PointMustBeCoveredByEndpointOf ∷ []

abbrev pub first_of_word : List ℕ → List RuleKind → Option RuleKind
first_of_word word rules = find (λ (k : RuleKind). bytes_eq (word_of k) word) rules

-- Where each rule is broken.
--
-- Row              a rule in force: its kind and its two sides
-- broken_at k A B F a b p      the sentence of each rule; three rules are broken at no point, but by a subject as a whole
-- BrokenAt row F a b p     the subject a breaks the rule at the point p, with the partner b, or 0 where the rule has none
-- BrokenWhole row F a      the subject a breaks the rule as a whole
-- judged row f     f is a subject of the rule: it is on the first side, or, of a rule that judges both, on one of the two
-- Fits row F       F ascends, the features of both sides have the kinds that the rule takes, and shapes are as shapes are: segments are
--                  proper, those of a polygon meet at ends alone, and a polygon has some
--
-- Each rule's sentence stands in a file of its own in `Rules/`. Source: the ArcGIS topology rules poster, read point by point (own).
use Rattle.std.specs.Prelude.{◌≡◌, ◌≢◌, ℕ, Bool, ◌&&◌, ◌||◌, List, [], Some, IfSome}
use Rattle.plane_terms.specs.Lists.{Every}
use Rattle.plane_terms.specs.Point.{Point}
use Rattle.plane_terms.specs.Segment.{IsSegment}
use Rattle.plane_terms.specs.Polygon.{IsSimpleList}
use Rattle.plane_terms.specs.declared.kind.Kind.TheVariants as shapes
use Rattle.rule_words.specs.Table.{origin_of, dest_of, judges_either}
use Rattle.rule_words.specs.declared.rule_kind.RuleKind.{RuleKind}
use Rattle.rule_words.specs.declared.rule_kind.RuleKind.TheVariants as rule
use Rattle.topology_terms.specs.Feature.{Feature, Side, is_on_side, IsOf, feature_at, sides, IsAscending}
use Rattle.topology_terms.specs.Rules.PolygonMustNotOverlap as polygon_must_not_overlap
use Rattle.topology_terms.specs.Rules.PolygonMustNotOverlapWith as polygon_must_not_overlap_with
use Rattle.topology_terms.specs.Rules.PolygonMustNotHaveGaps as polygon_must_not_have_gaps
use Rattle.topology_terms.specs.Rules.PolygonMustBeCoveredByFeatureClassOf as polygon_must_be_covered_by_feature_class_of
use Rattle.topology_terms.specs.Rules.PolygonMustCoverEachOther as polygon_must_cover_each_other
use Rattle.topology_terms.specs.Rules.PolygonBoundaryMustBeCoveredBy as polygon_boundary_must_be_covered_by
use Rattle.topology_terms.specs.Rules.PolygonAreaBoundaryMustBeCoveredByBoundaryOf as polygon_area_boundary_must_be_covered_by_boundary_of
use Rattle.topology_terms.specs.Rules.PolygonMustBeCoveredBy as polygon_must_be_covered_by
use Rattle.topology_terms.specs.Rules.PolygonContainsPoint as polygon_contains_point
use Rattle.topology_terms.specs.Rules.LineMustNotOverlap as line_must_not_overlap
use Rattle.topology_terms.specs.Rules.LineMustNotOverlapWith as line_must_not_overlap_with
use Rattle.topology_terms.specs.Rules.LineMustNotIntersect as line_must_not_intersect
use Rattle.topology_terms.specs.Rules.LineMustNotIntersectOrTouchInterior as line_must_not_intersect_or_touch_interior
use Rattle.topology_terms.specs.Rules.LineMustNotHaveDangles as line_must_not_have_dangles
use Rattle.topology_terms.specs.Rules.LineMustNotHavePseudoNodes as line_must_not_have_pseudo_nodes
use Rattle.topology_terms.specs.Rules.LineMustBeCoveredByFeatureClassOf as line_must_be_covered_by_feature_class_of
use Rattle.topology_terms.specs.Rules.LineMustBeCoveredByBoundaryOf as line_must_be_covered_by_boundary_of
use Rattle.topology_terms.specs.Rules.LineEndpointMustBeCoveredBy as line_endpoint_must_be_covered_by
use Rattle.topology_terms.specs.Rules.LineMustNotSelfOverlap as line_must_not_self_overlap
use Rattle.topology_terms.specs.Rules.LineMustNotSelfIntersect as line_must_not_self_intersect
use Rattle.topology_terms.specs.Rules.LineMustBeSinglePart as line_must_be_single_part
use Rattle.topology_terms.specs.Rules.PointMustBeDisjoint as point_must_be_disjoint
use Rattle.topology_terms.specs.Rules.PointMustCoincideWith as point_must_coincide_with
use Rattle.topology_terms.specs.Rules.PointMustBeProperlyInside as point_must_be_properly_inside
use Rattle.topology_terms.specs.Rules.PointMustBeCoveredByBoundaryOf as point_must_be_covered_by_boundary_of
use Rattle.topology_terms.specs.Rules.PointMustBeCoveredByLine as point_must_be_covered_by_line
use Rattle.topology_terms.specs.Rules.PointMustBeCoveredByEndpointOf as point_must_be_covered_by_endpoint_of

pub record Row : Type 0 where
  pub kind : RuleKind
  pub origin : Side
  pub dest : Side

abbrev pub broken_at : RuleKind → Side → Side → List Feature → ℕ → ℕ → Point → Type 0
broken_at rule.PolygonMustNotOverlap = polygon_must_not_overlap.BrokenAt
broken_at rule.PolygonMustNotOverlapWith = polygon_must_not_overlap_with.BrokenAt
broken_at rule.PolygonMustNotHaveGaps = polygon_must_not_have_gaps.BrokenAt
broken_at rule.PolygonMustBeCoveredByFeatureClassOf = polygon_must_be_covered_by_feature_class_of.BrokenAt
broken_at rule.PolygonMustCoverEachOther = polygon_must_cover_each_other.BrokenAt
broken_at rule.PolygonBoundaryMustBeCoveredBy = polygon_boundary_must_be_covered_by.BrokenAt
broken_at rule.PolygonAreaBoundaryMustBeCoveredByBoundaryOf = polygon_area_boundary_must_be_covered_by_boundary_of.BrokenAt
broken_at rule.PolygonMustBeCoveredBy = λ A B F a b p. ⊥
broken_at rule.PolygonContainsPoint = λ A B F a b p. ⊥
broken_at rule.LineMustNotOverlap = line_must_not_overlap.BrokenAt
broken_at rule.LineMustNotOverlapWith = line_must_not_overlap_with.BrokenAt
broken_at rule.LineMustNotIntersect = line_must_not_intersect.BrokenAt
broken_at rule.LineMustNotIntersectOrTouchInterior = line_must_not_intersect_or_touch_interior.BrokenAt
broken_at rule.LineMustNotHaveDangles = line_must_not_have_dangles.BrokenAt
broken_at rule.LineMustNotHavePseudoNodes = line_must_not_have_pseudo_nodes.BrokenAt
broken_at rule.LineMustBeCoveredByFeatureClassOf = line_must_be_covered_by_feature_class_of.BrokenAt
broken_at rule.LineMustBeCoveredByBoundaryOf = line_must_be_covered_by_boundary_of.BrokenAt
broken_at rule.LineEndpointMustBeCoveredBy = line_endpoint_must_be_covered_by.BrokenAt
broken_at rule.LineMustNotSelfOverlap = line_must_not_self_overlap.BrokenAt
broken_at rule.LineMustNotSelfIntersect = line_must_not_self_intersect.BrokenAt
broken_at rule.LineMustBeSinglePart = λ A B F a b p. ⊥
broken_at rule.PointMustBeDisjoint = point_must_be_disjoint.BrokenAt
broken_at rule.PointMustCoincideWith = point_must_coincide_with.BrokenAt
broken_at rule.PointMustBeProperlyInside = point_must_be_properly_inside.BrokenAt
broken_at rule.PointMustBeCoveredByBoundaryOf = point_must_be_covered_by_boundary_of.BrokenAt
broken_at rule.PointMustBeCoveredByLine = point_must_be_covered_by_line.BrokenAt
broken_at rule.PointMustBeCoveredByEndpointOf = point_must_be_covered_by_endpoint_of.BrokenAt

abbrev pub broken_whole : RuleKind → Side → Side → List Feature → ℕ → Type 0
broken_whole rule.PolygonMustBeCoveredBy = polygon_must_be_covered_by.BrokenWhole
broken_whole rule.PolygonContainsPoint = polygon_contains_point.BrokenWhole
broken_whole rule.LineMustBeSinglePart = line_must_be_single_part.BrokenWhole
broken_whole other = λ A B F a. ⊥

unfoldable pub BrokenAt : Row → List Feature → ℕ → ℕ → Point → Type 0
BrokenAt row F a b p = broken_at row.kind row.origin row.dest F a b p

unfoldable pub BrokenWhole : Row → List Feature → ℕ → Type 0
BrokenWhole row F a = broken_whole row.kind row.origin row.dest F a

abbrev pub judged : Row → Feature → Bool
judged row f = is_on_side row.origin f || (judges_either row.kind && is_on_side row.dest f)

pub record Fits (row : Row) (F : List Feature) : Type 0 where
  pub ascending : IsAscending F
  pub origin : (h : ℕ) (f : Feature) → IsOf F row.origin h f → f.shape.kind ≡ origin_of row.kind
  pub dest : (h : ℕ) (f : Feature) → IsOf F row.dest h f → IfSome (dest_of row.kind) (λ k. f.shape.kind ≡ k)
  pub proper : (h : ℕ) (f : Feature) → feature_at F h ≡ Some f → Every IsSegment (sides f)
  pub simple : (h : ℕ) (f : Feature) → feature_at F h ≡ Some f → f.shape.kind ≡ shapes.Polygon → IsSimpleList (sides f)
  pub boundary : (h : ℕ) (f : Feature) → feature_at F h ≡ Some f → f.shape.kind ≡ shapes.Polygon → sides f ≢ []

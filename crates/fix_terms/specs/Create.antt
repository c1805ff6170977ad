-- A point that a rule asks for.
--
-- subtype_of side        the subtype that the side binds, and 0 where it binds none
-- created row at         the plan: a point at this place, on the second side of the rule
-- creates k B F f at     the rule Contains Point: no point of the side B is inside the feature, and the place is; the rule Endpoint Must Be
--                        Covered By: an end of the feature is at the place, and no point of the side is
-- may_create row F f at  the feature is a subject of the rule, which asks for a point so
-- HasHandle n            where n is the next handle, there is one behind it
-- HasCreated             what holds of the features after the plan
use Rattle.std.specs.Prelude.{Bool, false, ◌&&◌, ◌≡◌, ◌≢◌, ℕ, ◌+◌, ◌≤◌, List, [], ◌∷◌, Option, Some, None}
use Rattle.plane_terms.specs.Point.{Place, Point, IsAt}
use Rattle.plane_terms.specs.Shape.{point_shape}
use Rattle.rule_words.specs.declared.rule_kind.RuleKind.{RuleKind}
use Rattle.rule_words.specs.declared.rule_kind.RuleKind.TheVariants as rule
use Rattle.topology_terms.specs.Feature.{Feature, Side, feature_at, is_on_side, sides}
use Rattle.topology_terms.specs.Together.{of_side, ends}
use Rattle.topology_terms.specs.Tests.{is_inside_at, has_end_at}
use Rattle.topology_terms.specs.Plans.{none_inside, none_at, is_point_at}
use Rattle.topology_terms.specs.Broken.{Row, BrokenAt, BrokenWhole}
use Rattle.fix_terms.specs.Plans.{Edit}
use Rattle.fix_terms.specs.declared.edit.Edit.TheVariants.{Add}

abbrev pub or_0 : Option ℕ → ℕ
or_0 None = 0
or_0 (Some s) = s

abbrev pub subtype_of : Side → ℕ
subtype_of side = or_0 side.subtype

abbrev pub created : Row → Place → List Edit
created row at = Add row.dest.class (subtype_of row.dest) (point_shape at) ∷ []

abbrev pub creates : RuleKind → Side → List Feature → Feature → Place → Bool
creates rule.PolygonContainsPoint B F f at = none_inside f (of_side B F) && is_inside_at (sides f) at
creates rule.LineEndpointMustBeCoveredBy B F f at = has_end_at (ends f) at && none_at is_point_at (of_side B F) at
creates other B F f at = false

abbrev pub may_create : Row → List Feature → Feature → Place → Bool
may_create row F f at = is_on_side row.origin f && creates row.kind row.dest F f at

-- there is a handle after the next one
abbrev pub HasHandle : ℕ → Type 0
HasHandle n = n + 1 ≤ 4294967295

-- the feature broke the rule, as a whole or at the place; it does not any more, and nobody does at the place; no other feature changes
pub record HasCreated (row : Row) (f : Feature) (at : Place) (F : List Feature) (n : ℕ) (G : List Feature) : Type 0 where
  pub broken_whole : row.kind ≡ rule.PolygonContainsPoint → BrokenWhole row F f.handle
  pub broken_at : row.kind ≡ rule.LineEndpointMustBeCoveredBy → (p : Point) → IsAt at p → BrokenAt row F f.handle 0 p
  pub inside : row.kind ≡ rule.PolygonContainsPoint → ¬ (BrokenWhole row G f.handle)
  pub at_end : row.kind ≡ rule.LineEndpointMustBeCoveredBy → (a b : ℕ) (p : Point) → IsAt at p → ¬ (BrokenAt row G a b p)
  pub others : (k : ℕ) → k ≢ n → feature_at G k ≡ feature_at F k

-- Each part of a line as a feature of its own.
--
-- line_of part         the line of this one part
-- exploded_by f parts  the plan for these parts: the first in place of the feature, and a feature of its class and subtype for each other
-- exploded f           that of its own parts
-- may_explode f        it is a line of two or more parts
-- HasHandles n f       where n is the next handle, there are handles for its further parts
-- HasExploded          what holds of the features after the plan
use Rattle.std.specs.Prelude.{◌≡◌, ◌≢◌, ℕ, nat_lt, ◌+◌, ◌≤◌, Bool, ◌&&◌, List, [], ◌∷◌, length, map, flat_map, Some}
use Rattle.plane_terms.specs.Lists.{Every}
use Rattle.plane_terms.specs.Point.{Place}
use Rattle.plane_terms.specs.Shape.{Shape, segments_of}
use Rattle.plane_terms.specs.declared.kind.Kind.TheVariants as kind
use Rattle.rule_words.specs.declared.rule_kind.RuleKind.TheVariants as rule
use Rattle.topology_terms.specs.Feature.{Feature, feature_at, sides}
use Rattle.topology_terms.specs.Broken.{Row, BrokenWhole}
use Rattle.topology_terms.specs.Causes.{same_kind}
use Rattle.fix_terms.specs.Plans.{handles_of, shapes_of}
use Rattle.fix_terms.specs.Plans.{Edit}
use Rattle.fix_terms.specs.declared.edit.Edit.TheVariants.{Put, Add}

abbrev pub line_of : List (List Place) → Shape
line_of part = record { kind = kind.Line; parts = part ∷ [] }

abbrev pub exploded_by : Feature → List (List (List Place)) → List Edit
exploded_by f [] = []
exploded_by f (part ∷ parts) = Put f.handle (line_of part) ∷ map {A = List (List Place)} (λ part. Add f.class f.subtype (line_of part)) parts

abbrev pub exploded : Feature → List Edit
exploded f = exploded_by f f.shape.parts

abbrev pub may_explode : Feature → Bool
may_explode f = same_kind f.shape.kind kind.Line && nat_lt 1 (length f.shape.parts)

-- the next handle and the further parts are not too many
abbrev pub HasHandles : ℕ → Feature → Type 0
HasHandles n f = n + length f.shape.parts ≤ 4294967296

-- no feature of the plan has several parts, their segments in order are the old ones, and no other feature changes
pub record HasExploded (F : List Feature) (n h : ℕ) (plan : List Edit) (G : List Feature) : Type 0 where
  pub single : (row : Row) → row.kind ≡ rule.LineMustBeSinglePart → Every (λ k. ¬ (BrokenWhole row G k)) (handles_of plan n)
  pub segments : (f : Feature) → feature_at F h ≡ Some f → flat_map segments_of (shapes_of plan) ≡ sides f
  pub others : (k : ℕ) → Every (λ j. k ≢ j) (handles_of plan n) → feature_at G k ≡ feature_at F k

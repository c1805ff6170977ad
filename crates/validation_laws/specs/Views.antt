-- What of the features a rule is shown for a subject, and what a meaning owes for that to be enough.
--
-- IsView F f V      V has, ascending by handle, the features of F whose envelope meets that of f
-- looks_at_ends k   the rules of this kind ask of a line only what is at its ends
-- holds_any qs r    the test whether one of the places lies in the rectangle
-- OpenEnds          a line, and of its first and its last end whether it is open: whether more is to be shown there than is known
-- open_ends e       those of the line's ends that are open; of a line that has not two, all
-- HoldsEnd f g      the envelope of g holds an end of f
-- counts_at row g q, counts_by k row g q     the test whether g is one of those that the rule counts at an end q: of its first class a line
--                   that ends there and has a segment there, as every shape with an end there has, or, if it asks for points at
--                   ends, of its second class a point there
-- enough_of k       so many of them are enough for a rule of this kind: what it finds there does not change with one more
-- has_enough row V q    the test whether the rule counts so many of V at q
-- IsShownAt row F V q   V has enough for the rule at q, or all features of F whose envelope holds q
-- IsEndView row F f V   V has, ascending by handle, what is to be shown to the rule at each end of f, and f itself, and no feature of F
--                   besides but such whose envelope meets that of f
-- ViewLaws M        beside `Laws`: a subject that a row does not judge has no findings, what fits all features fits a part of them
--                   that ascends, and of a rule that looks at ends the findings depend on what is to be shown to it there
use Rattle.std.specs.Prelude.{◌≡◌, ◌⊎◌, ◌&&◌, ℕ, Bool, true, false, nat_le, List, [], ◌∷◌, ◌++◌, if◌then◌else◌, Some}
use Rattle.std.specs.List.{list_any}
use Rattle.plane_terms.specs.Lists.{Every, SomeOf, how_many}
use Rattle.plane_terms.specs.Point.{Place, point_at}
use Rattle.plane_terms.specs.Rectangle.{Rectangle, RectHolds, RectsMeet, rect_at, is_within}
use Rattle.plane_terms.specs.Shape.{Shape, ends_of}
use Rattle.rule_words.specs.declared.rule_kind.RuleKind.{RuleKind}
use Rattle.rule_words.specs.declared.rule_kind.RuleKind.TheVariants as rule
use Rattle.topology_terms.specs.Feature.{Feature, feature_at, env, is_on_side, IsAscending}
use Rattle.topology_terms.specs.Together.{ends}
use Rattle.topology_terms.specs.Plans.{ends_there, has_side_at, is_point_at}
use Rattle.topology_terms.specs.Broken.{Row, judged}
use Rattle.topology_terms.specs.Meaning.{Meaning, Finding}

pub record IsView (F : List Feature) (f : Feature) (V : List Feature) : Type 0 where
  pub forth : (h : ℕ) (g : Feature) → feature_at V h ≡ Some g → (feature_at F h ≡ Some g) × RectsMeet (env f) (env g)
  pub back : (h : ℕ) (g : Feature) → feature_at F h ≡ Some g → RectsMeet (env f) (env g) → feature_at V h ≡ Some g
  pub ascending : IsAscending V

abbrev pub looks_at_ends : RuleKind → Bool
looks_at_ends rule.LineMustNotHaveDangles = true
looks_at_ends rule.LineMustNotHavePseudoNodes = true
looks_at_ends rule.LineEndpointMustBeCoveredBy = true
looks_at_ends other = false

abbrev pub holds_any : List Place → Rectangle → Bool
holds_any qs r = list_any (λ (q : Place). is_within (rect_at q) r) qs

pub record OpenEnds : Type 0 where
  pub line : Shape
  pub first : Bool
  pub last : Bool

abbrev pub open_of : List Place → Bool → Bool → List Place
open_of (a ∷ b ∷ []) first last = (if first then a ∷ [] else []) ++ (if last then b ∷ [] else [])
open_of qs first last = qs

abbrev pub open_ends : OpenEnds → List Place
open_ends e = open_of (ends_of e.line) e.first e.last

abbrev pub HoldsEnd : Feature → Feature → Type 0
HoldsEnd f g = SomeOf (λ (q : Place). RectHolds (env g) (point_at q)) (ends f)

abbrev pub counts_by : RuleKind → Row → Feature → Place → Bool
counts_by rule.LineEndpointMustBeCoveredBy row g q = is_on_side row.dest g && is_point_at g q
counts_by other row g q = is_on_side row.origin g && (ends_there g q && has_side_at g q)

abbrev pub counts_at : Row → Feature → Place → Bool
counts_at row g q = counts_by row.kind row g q

-- a point covers an end; three ends at a place neither dangle nor are a pseudo node
abbrev pub enough_of : RuleKind → ℕ
enough_of rule.LineEndpointMustBeCoveredBy = 1
enough_of other = 3

abbrev pub has_enough : Row → List Feature → Place → Bool
has_enough row V q = nat_le (enough_of row.kind) (how_many (λ (g : Feature). counts_at row g q) V)

abbrev pub IsShownAt : Row → List Feature → List Feature → Place → Type 0
IsShownAt row F V q = (has_enough row V q ≡ true)
    ⊎ ((h : ℕ) (g : Feature) → feature_at F h ≡ Some g → RectHolds (env g) (point_at q) → feature_at V h ≡ Some g)

pub record IsEndView (row : Row) (F : List Feature) (f : Feature) (V : List Feature) : Type 0 where
  pub forth : (h : ℕ) (g : Feature) → feature_at V h ≡ Some g → (feature_at F h ≡ Some g) × RectsMeet (env f) (env g)
  pub at_ends : Every (IsShownAt row F V) (ends f)
  pub subject : feature_at V f.handle ≡ Some f
  pub ascending : IsAscending V

-- a validation passes over a subject that a rule does not judge, while its entries are said to be those of the cutting for each rule in
-- force
pub record ViewLaws (M : Meaning) : Type 0 where
  pub idle : (row : Row) (F : List Feature) (a : ℕ) (f : Feature) → feature_at F a ≡ Some f → judged row f ≡ false → M.IsCutting row F a []
  pub fits : (row : Row) (F G : List Feature) → IsAscending G → ((h : ℕ) (g : Feature) → feature_at G h ≡ Some g → feature_at F h ≡ Some g)
      → M.Fits row F → M.Fits row G
  pub ends : (row : Row) (F V : List Feature) (a : ℕ) (f : Feature) → looks_at_ends row.kind ≡ true → IsAscending F → M.Fits row F
      → M.Fits row V → feature_at F a ≡ Some f → IsEndView row F f V → (xs : List Finding) → M.IsCutting row V a xs → M.IsCutting row F a xs

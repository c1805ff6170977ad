-- What the plain structs stand for.
--
-- feature_of p, features_of ps     the feature of a point, of the subtype 0; those of a list of points, as they stand
-- entry_of e, entries_of es        the error of rule 1 with one cell, a place, which is its frame too; unmarked
-- whole_class class                the side of each feature of the class of this number
-- row_of class                     Must Be Disjoint for the class of this number
-- IsThere F class h p              the live feature of the handle h is of the class, and at p
-- SaysAt d es row F a b p          what the headline says of one point: off the dirt d it lies in the error of a and b exactly
--                                  if a breaks the rule there with b; the rule is number 1
-- SaysThere class ps d es a b q    it says so of each point that is at the place q, for Must Be Disjoint and these lists
-- Shows p class ps d es            the one rule of the project p, number 1, is Must Be Disjoint for the class, and these are its
--                                  features, dirt and errors
-- Breaks row F a b                 at some point of the plane a breaks the rule with b
-- AreRising xs                     each number is below all later ones
-- IsPairBelow x y                  the pair x comes before y, by its first number, then by its second
-- AreAscending xs                  each pair comes before all later ones
use Rattle.std.specs.Prelude.{◌≡◌, ◌↔◌, ◌⊎◌, ℕ, ◌<◌, false, List, [], ◌∷◌, None, map}
use Rattle.plane_terms.specs.Lists.{EveryPair}
use Rattle.plane_terms.specs.Point.{Place, Point, IsAt}
use Rattle.plane_terms.specs.Rectangle.{Rectangle, rect_at}
use Rattle.plane_terms.specs.Cell.{at_place}
use Rattle.plane_terms.specs.Dirt.{Covers}
use Rattle.plane_terms.specs.Shape.{point_shape}
use Rattle.topology_terms.specs.Feature.{Feature, IsOf, place}
use Rattle.topology_terms.specs.Feature as features
use Rattle.topology_terms.specs.Broken.{Row, BrokenAt}
use Rattle.topology_terms.specs.Entry.{Entry, HasCellsAt}
use Rattle.topology_terms.specs.Project.{Project}
use Rattle.rule_words.specs.declared.rule_kind.RuleKind.TheVariants as kind
use Rattle.plain_topology.specs.declared.points.PlainPoint.{PlainPoint}
use Rattle.plain_topology.specs.declared.entries.PlainEntry.{PlainEntry}

abbrev pub feature_of : PlainPoint → Feature
feature_of p = features.feature_of p.handle p.class 0 (point_shape p.place)

abbrev pub features_of : List PlainPoint → List Feature
features_of ps = map feature_of ps

abbrev pub entry_of : PlainEntry → Entry
entry_of e = record {
  rule = 1;
  subject = e.subject;
  other = e.other;
  whole = false;
  marked = false;
  frame = rect_at e.place;
  cells =
      at_place e.place ∷ [];
}

abbrev pub entries_of : List PlainEntry → List Entry
entries_of es = map entry_of es

abbrev pub whole_class : ℕ → features.Side
whole_class class = record { class = class; subtype = None }

abbrev pub row_of : ℕ → Row
row_of class = record { kind = kind.PointMustBeDisjoint; origin = whole_class class; dest = features.no_side }

pub record IsThere (F : List Feature) (class h : ℕ) (p : Point) : Type 0 where
  pub f : Feature
  pub live : IsOf F (whole_class class) h f
  pub here : IsAt (place f) p

abbrev pub SaysAt : List Rectangle → List Entry → Row → List Feature → ℕ → ℕ → Point → Type 0
SaysAt d es row F a b p = ¬ (Covers d p) → HasCellsAt es 1 a b p ↔ BrokenAt row F a b p

abbrev pub SaysThere : ℕ → List PlainPoint → List Rectangle → List PlainEntry → ℕ → ℕ → Place → Type 0
SaysThere class ps d es a b q = (p : Point) → IsAt q p → SaysAt d (entries_of es) (row_of class) (features_of ps) a b p

pub record Shows (p : Project) (class : ℕ) (ps : List PlainPoint) (d : List Rectangle) (es : List PlainEntry) : Type 0 where
  pub rules : p.rules ≡ record { number = 1; row = row_of class } ∷ []
  pub features : p.features ≡ features_of ps
  pub dirt : p.dirt ≡ d
  pub entries : p.entries ≡ entries_of es

abbrev pub Breaks : Row → List Feature → ℕ → ℕ → Type 0
Breaks row F a b = (p : Point) × BrokenAt row F a b p

abbrev pub AreRising : List ℕ → Type 0
AreRising xs = EveryPair (λ m n. m < n) xs

abbrev pub IsPairBelow : ℕ × ℕ → ℕ × ℕ → Type 0
IsPairBelow x y = (x.0 < y.0) ⊎ ((x.0 ≡ y.0) × (x.1 < y.1))

abbrev pub AreAscending : List (ℕ × ℕ) → Type 0
AreAscending xs = EveryPair IsPairBelow xs

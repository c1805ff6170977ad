-- The kinds of shape that a rule in force takes, and its classes.
--
-- HasKinds cs row      the class of the subjects has the kind that the rule takes; so has the second class, where the rule takes one
-- TakesKinds M         the meaning asks no more of the features than that they ascend, both sides have the rule's kinds, and segments are
--                      as shapes have them
-- IsPartner F b        b is the handle of a live feature, or 0, which is the handle of none
-- NamesPartners M      a subject breaks a rule of the meaning with such a partner alone
use Rattle.std.specs.Prelude.{◌≡◌, ◌⊎◌, ℕ, List, Some, IfSome}
use Rattle.plane_terms.specs.Point.{Point}
use Rattle.topology_terms.specs.Feature.{Class, Feature, feature_at}
use Rattle.topology_terms.specs.Lookups.{kind_of_class}
use Rattle.rule_words.specs.Table.{origin_of, dest_of}
use Rattle.topology_terms.specs.Broken.{Row, Fits}
use Rattle.topology_terms.specs.Meaning.{Meaning}

pub record HasKinds (cs : List Class) (row : Row) : Type 0 where
  pub origin : kind_of_class cs row.origin.class ≡ Some (origin_of row.kind)
  pub dest : IfSome (dest_of row.kind) (λ k. kind_of_class cs row.dest.class ≡ Some k)

pub record TakesKinds (M : Meaning) : Type 0 where
  pub fits : (row : Row) (F : List Feature) → Fits row F → M.Fits row F

abbrev pub IsPartner : List Feature → ℕ → Type 0
IsPartner F b = (b ≡ 0) ⊎ ((g : Feature) × (feature_at F b ≡ Some g))

pub record NamesPartners (M : Meaning) : Type 0 where
  pub partner : (row : Row) (F : List Feature) (a b : ℕ) (p : Point) → M.BrokenAt row F a b p → IsPartner F b

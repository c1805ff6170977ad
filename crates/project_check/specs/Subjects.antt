-- The rules in force, and the numbers at which there is something to check.
--
-- HasLists p F d es    the project p has these features, dirt and entries
-- HasSubjects F es ns  ns has the handle of each feature of F, and the subject of each entry of es
-- IsFirstNot P a       P does not hold of the number a, and holds of every number below it
-- IsCompared d o es p a yes    yes says whether the entries of es of p's rule and the subject a are sound beside those of p, which are
--                              found afresh
-- IsSoundFor M p a q   the project p is sound at a by the rule q
-- IsBroken M p rules a k   the rule at the place k is the first of these by which p is not sound at a
-- IsFirstRule M p rules a place    the project p is not sound at a by the rule at this place, and is by each before it; or by all rules,
--                                  where there is no place
use Rattle.std.specs.Prelude.{◌≡◌, ◌↔◌, ℕ, ◌<◌, Bool, IsTrue, List, length, take, get_or, Option, Some, MatchOption, Contains}
use Rattle.plane_terms.specs.Lists.{Every}
use Rattle.plane_terms.specs.Rectangle.{Rectangle}
use Rattle.topology_terms.specs.Feature.{Feature, feature_at}
use Rattle.topology_terms.specs.Entry.{Entry, entry_at}
use Rattle.topology_terms.specs.Meaning.{Meaning}
use Rattle.topology_terms.specs.Project.{Project, InForce}
use Rattle.topology_terms.specs.Sound.{IsSoundAt}
use Rattle.sound_check.specs.Pairs.{IsSoundPair}
use Rattle.validation.specs.Parted.{RulePart}

pub record HasLists (p : Project) (F : List Feature) (d : List Rectangle) (es : List Entry) : Type 0 where
  pub features : p.features ≡ F
  pub dirt : p.dirt ≡ d
  pub entries : p.entries ≡ es

pub record HasSubjects (F : List Feature) (es : List Entry) (ns : List ℕ) : Type 0 where
  pub live : (a : ℕ) (f : Feature) → feature_at F a ≡ Some f → Contains ns a
  pub stored : (r a b : ℕ) (e : Entry) → entry_at es r a b ≡ Some e → Contains ns a

pub record IsFirstNot (P : ℕ → Type 0) (a : ℕ) : Type 0 where
  pub fails : ¬ (P a)
  pub before : (b : ℕ) → b < a → P b

pub record IsCompared (d : List Rectangle) (o : Option Rectangle) (es : List Entry) (p : RulePart) (a : ℕ) (yes : Bool) : Type 0 where
  pub stored : List Entry
  pub same : (b : ℕ) → entry_at stored p.rule.number a b ≡ entry_at es p.rule.number a b
  pub told : IsTrue yes ↔ IsSoundPair d o p.entries stored p.rule.number a

abbrev pub IsSoundFor : Meaning → Project → ℕ → InForce → Type 0
IsSoundFor M p a q = IsSoundAt M p q.number q.row a

pub record IsBroken (M : Meaning) (p : Project) (rules : List InForce) (a k : ℕ) : Type 0 where
  pub rule : InForce
  pub within : k < length rules
  pub is : rule ≡ get_or rules k rule
  pub fails : ¬ (IsSoundFor M p a rule)
  pub before : Every (IsSoundFor M p a) (take k rules)

abbrev pub IsFirstRule : Meaning → Project → List InForce → ℕ → Option ℕ → Type 0
IsFirstRule M p rules a place = MatchOption place (Every (IsSoundFor M p a) rules) (IsBroken M p rules a)

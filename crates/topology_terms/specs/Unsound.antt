-- Where a project is not sound first.
--
-- IsEarlier s b r a    of two pairs of a rule and a subject (s, b) comes first: in order of rules, then of subjects
-- IsFirstUnsound M p r a    the rule r is in force, at it and the subject a the project p is not sound, and at each earlier pair it is
--
-- Every number may be a subject: a handle of a live feature, or of none. Source: own.
use Rattle.std.specs.Prelude.{◌≡◌, ◌⊎◌, ℕ, ◌<◌, Some}
use Rattle.topology_terms.specs.Broken.{Row}
use Rattle.topology_terms.specs.Meaning.{Meaning}
use Rattle.topology_terms.specs.Project.{Project, rule_at}
use Rattle.topology_terms.specs.Sound.{IsSoundAt}

abbrev pub IsEarlier : ℕ → ℕ → ℕ → ℕ → Type 0
IsEarlier s b r a = (s < r) ⊎ ((s ≡ r) × (b < a))

pub record IsFirstUnsound (M : Meaning) (p : Project) (r a : ℕ) : Type 0 where
  pub row : Row
  pub in_force : rule_at p.rules r ≡ Some row
  pub unsound : ¬ (IsSoundAt M p r row a)
  pub before : (s : ℕ) (other : Row) (b : ℕ) → rule_at p.rules s ≡ Some other → IsEarlier s b r a → IsSoundAt M p s other b

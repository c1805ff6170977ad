-- New entries of several rules at once, put together subject by subject.
--
-- RulePart             a rule in force, and new entries of it
-- rules_of ps          the rules, in their order
-- entries_of ps        the entries of the first, then those of the second, and so on
-- IsPartOf M F a q p   p is of the rule q, and its entries are those of the subject a
-- IsGrown M F a p q    q is p with the new entries of its rule and the subject a behind
-- AreGrown M F a ps qs     each of ps has grown so
-- IsDone M F selected p    the entries of p are those of its rule and of the selected subjects
use Rattle.std.specs.Prelude.{◌≡◌, ℕ, List, ◌++◌, map, flat_map}
use Rattle.plane_terms.specs.Lists.{Paired}
use Rattle.topology_terms.specs.Feature.{Feature}
use Rattle.topology_terms.specs.Meaning.{Meaning}
use Rattle.topology_terms.specs.Entry.{Entry}
use Rattle.topology_terms.specs.Project.{InForce}
use Rattle.validation_laws.specs.Parts.{IsSubjectPart, IsRulePart}

pub record RulePart : Type 0 where
  pub rule : InForce
  pub entries : List Entry

abbrev pub rules_of : List RulePart → List InForce
rules_of ps = map (λ (p : RulePart). p.rule) ps

abbrev pub entries_of : List RulePart → List Entry
entries_of ps = flat_map (λ (p : RulePart). p.entries) ps

pub record IsPartOf (M : Meaning) (F : List Feature) (a : ℕ) (q : InForce) (p : RulePart) : Type 0 where
  pub rule : p.rule ≡ q
  pub own : IsSubjectPart M F q.number q.row a p.entries

pub record IsGrown (M : Meaning) (F : List Feature) (a : ℕ) (p q : RulePart) : Type 0 where
  pub rule : q.rule ≡ p.rule
  pub part : List Entry
  pub put : q.entries ≡ p.entries ++ part
  pub own : IsSubjectPart M F p.rule.number p.rule.row a part

abbrev pub AreGrown : Meaning → List Feature → ℕ → List RulePart → List RulePart → Type 0
AreGrown M F a ps qs = Paired (IsGrown M F a) ps qs

abbrev pub IsDone : Meaning → List Feature → List ℕ → RulePart → Type 0
IsDone M F selected p = IsRulePart M F selected p.rule p.entries

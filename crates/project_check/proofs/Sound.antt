-- A project is sound at a rule and a subject, at a rule, and under all.
use Rattle.std.proofs.Common.{◌≡◌, inl, inr, ◌∙◌, ℕ, ◌<◌, List, Some, None, sym, subst, take, length, get_or}
use Rattle.std.proofs.lemmas.Option.{none-some}
use Rattle.plane_terms.specs.Lists.{Every}
use Rattle.plane_terms.specs.Rectangle.{Rectangle}
use Rattle.plane_terms.proofs.Truths.{there_or_not}
use Rattle.plane_terms.proofs.ListLemmas.{IsAmong, every_among, among_at}
use Rattle.topology_terms.specs.Feature.{Feature, feature_at}
use Rattle.topology_terms.specs.Broken.{Row}
use Rattle.topology_terms.specs.Meaning.{Meaning, Laws}
use Rattle.topology_terms.specs.Entry.{Entry, entry_at}
use Rattle.topology_terms.specs.Project.{Project, InForce, by_number, rule_at, AreAscending}
use Rattle.topology_terms.specs.Sound.{IsSoundAt, IsSoundUnder}
use Rattle.topology_terms.specs.Unsound.{IsFirstUnsound}
use Rattle.validation_laws.specs.Parts.{IsRising}
use Rattle.validation_laws.proofs.Handles.{among, among_or_not}
use Rattle.sound_laws.proofs.Keyed.{found_contained, key_found, every_found, contained_found}
use Rattle.sound_laws.proofs.RuleLists.{rule_numbers, found_rule, rule_found}
use Rattle.grid_index.specs.declared.placed.Placed.{Placed}
use Rattle.validation.specs.Projects.{HasParts}
use Rattle.project_check.specs.Subjects.{HasLists, HasSubjects, IsFirstNot}
use Rattle.project_check.proofs.Places.{holds_below}

-- ---- where there is nobody
-- at a number that is neither a live feature nor has an entry, a project is sound
pub nobody_sound : (M : Meaning) → Laws M → (p : Project) (r : ℕ) (row : Row) (a : ℕ) → M.Fits row p.features
    → feature_at p.features a ≡ None → ((b : ℕ) → entry_at p.entries r a b ≡ None) → IsSoundAt M p r row a
nobody_sound M L p r row a u n none = record {
  points = λ q d b. (
    λ h. absurd (none-some h.0 (sym (none b) ∙ h.1)),
    λ h. let f = L.inside row p.features a b q u h in absurd (none-some f.0 (sym n ∙ f.1)),
  );
  whole = λ f e d. absurd (none-some f (sym n ∙ e));
  cells = λ b e at. absurd (none-some e (sym (none b) ∙ at));
  frames = λ b e at. absurd (none-some e (sym (none b) ∙ at));
}

-- so it is at each number that is not among the subjects
pub other_sound : (M : Meaning) → Laws M → (p : Project) (F : List Feature) (d : List Rectangle) (es : List Entry) (ns : List ℕ) (r : ℕ)
    (row : Row) → HasLists p F d es → HasSubjects F es ns → M.Fits row F → (a : ℕ) → ¬ (IsAmong a ns) → IsSoundAt M p r row a
other_sound M L p F d es ns r row h s u a n = nobody_sound M L p r row a (subst (M.Fits row) (sym h.features) u)
    (rw h.features (elim (there_or_not (feature_at F a)) [
      | inl f ↦ absurd (n (among a ns (s.live a f.0 f.1)))
      | inr k ↦ k
    ]))
    (λ b. rw h.entries (elim (there_or_not (entry_at es r a b)) [
      | inl e ↦ absurd (n (among a ns (s.stored r a b e.0 e.1)))
      | inr k ↦ k
    ]))

-- ---- numbers of which one is the first that fails, or none is
pub all_hold : (P : ℕ → Type 0) (ns : List ℕ) → ((a : ℕ) → ¬ (IsAmong a ns) → P a) → Every P ns → (a : ℕ) → P a
all_hold P ns other h a = elim (among_or_not a ns) [ inl m ↦ every_among P ns h a m | inr n ↦ other a n ]

pub first_not : (P : ℕ → Type 0) (ns : List ℕ) (i x : ℕ) → ((a : ℕ) → ¬ (IsAmong a ns) → P a) → IsRising ns → i < length ns
    → x ≡ get_or ns i x → Every P (take i ns) → ¬ (P x) → IsFirstNot P x
first_not P ns i x other u l e h n = record {
  fails = n;
  before = λ b below. elim (among_or_not b ns) [
    | inl m ↦ holds_below (λ k. k) P ns i x u l e h b below m
    | inr k ↦ other b k
  ];
}

-- ---- rules in force
pub lists_of : (p : Project) (rules : List InForce) (F G : List Feature) (ps : List Placed) (d : List Rectangle)
    (es fs : List Entry) → HasParts p (record { in_force = rules; features = F; placed = ps }) d es → G ≡ F → fs ≡ es → HasLists p G d fs
lists_of p rules F G ps d es fs h e k = record { features = h.features ∙ sym e; dirt = h.dirt; entries = h.entries ∙ sym k }

abbrev pub IsSoundBy : Meaning → Project → InForce → Type 0
IsSoundBy M p q = (a : ℕ) → IsSoundAt M p q.number q.row a

pub sound_under : (M : Meaning) (p : Project) (rules : List InForce) → p.rules ≡ rules → Every (IsSoundBy M p) rules → IsSoundUnder M p
sound_under M p rules is h = record {
  each = λ r row e a.
      let q = found_rule rules r row (subst (λ rs. rule_at rs r ≡ Some row) is e) in
      let s = every_found by_number rule_numbers (IsSoundBy M p) rules r q.rule h q.found a in
      subst (λ x. IsSoundAt M p r x a) q.row_is
      (subst (λ n. IsSoundAt M p n q.rule.row a) (key_found by_number rule_numbers rules r q.rule q.found) s);
}

pub first_unsound : (M : Meaning) (p : Project) (rules : List InForce) (i : ℕ) (q : InForce) (a : ℕ) → p.rules ≡ rules
    → AreAscending rules → i < length rules → q ≡ get_or rules i q → Every (IsSoundBy M p) (take i rules)
    → IsFirstNot (λ n. IsSoundAt M p q.number q.row n) a → IsFirstUnsound M p q.number a
first_unsound M p rules i q a is u l e h first = record {
  row = q.row;
  in_force = subst (λ rs. rule_at rs q.number ≡ Some q.row) (sym is) here;
  unsound = first.fails;
  before = λ s other b at early.
      let x = found_rule rules s other (subst (λ rs. rule_at rs s ≡ Some other) is at) in
      let own = key_found by_number rule_numbers rules s x.rule x.found in
      elim early [
        | inl below ↦
            let there = found_contained by_number rule_numbers rules s x.rule x.found in
            let k = holds_below (λ (y : InForce). y.number) (IsSoundBy M p) rules i q u l e h x.rule (rw own below)
            (among_at rules there.0 x.rule there.1 there.2) b in
            subst (λ y. IsSoundAt M p s y b) x.row_is (subst (λ n. IsSoundAt M p n x.rule.row b) own k)
        | inr same ↦
            let both : Some q.row ≡ Some other = sym here ∙ subst (λ n. rule_at rules n ≡ Some other) same.0
            (subst (λ rs. rule_at rs s ≡ Some other) is at) in
            let row : q.row ≡ other = cc in
            subst (λ y. IsSoundAt M p s y b) row (subst (λ n. IsSoundAt M p n q.row b) (sym same.0) (first.before b same.1))
      ];
}
  where
    here : rule_at rules q.number ≡ Some q.row
    here = rule_found rules q.number q (contained_found by_number rule_numbers rules q u (i, l, sym e))

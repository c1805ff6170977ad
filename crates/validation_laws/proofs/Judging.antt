-- What entries put together rule by rule and subject by subject are.
use Rattle.std.proofs.Common.{◌≡◌, inl, inr, ℕ, ◌<◌, Bool, true, false, arith, List, [], ◌∷◌, Option, Some, None, sym, ◌∙◌, cond}
use Rattle.std.specs.Prelude.{◌==◌}
use Rattle.std.proofs.lemmas.Bool.Decides.{nat_tests, eqb_tells}
use Rattle.plane_terms.specs.Lists.{Every, SomeOf, Paired}
use Rattle.topology_terms.specs.Feature.{Feature, feature_at}
use Rattle.topology_terms.specs.Broken.{Row}
use Rattle.topology_terms.specs.Meaning.{Meaning, Finding, finding_at}
use Rattle.topology_terms.specs.Entry.{Entry, by_key, entry_at, has_key, IsKeyBelow, IsAscending}
use Rattle.topology_terms.specs.Project.{InForce, rule_at, AreAscending}
use Rattle.topology_terms.specs.Settled.{IsEntryOf, AreAlike, AreOf}
use Rattle.sound_laws.proofs.Keyed.{ascending_append}
use Rattle.sound_laws.proofs.Lists.{keys, Lacks, none_at, past_front, before_back}
use Rattle.validation_laws.specs.Parts.{IsRising, AreInOrder, IsJoined, IsNewEntry, IsSubjectPart, IsJudging}
use Rattle.validation_laws.specs.Replaced.{IsNewOf, AreFresh}
use Rattle.validation_laws.proofs.Joining.{of_other_rule, of_other_subject}
use Rattle.validation_laws.proofs.Handles.{below_each}
use Rattle.plane_terms.proofs.Truths.{there_or_not}
use Rattle.plane_terms.proofs.ListLemmas.{every_append, every_map, IsAmong, contains_among}

-- ---- the entries of findings
abbrev pub OfSubject : ℕ → ℕ → Entry → Type 0
OfSubject r a e = (e.rule ≡ r) × (e.subject ≡ a) × (e.marked ≡ false)

found_of : (r a : ℕ) (f : Feature) (xs : List Finding) (es : List Entry) → Paired (IsNewEntry r a f) xs es → Every (OfSubject r a) es
found_of r a f [] [] h = tt
found_of r a f [] (e ∷ es) h = absurd h
found_of r a f (x ∷ xs) [] h = absurd h
found_of r a f (x ∷ xs) (e ∷ es) h = ((h.0.rule, h.0.subject, h.0.unmarked), found_of r a f xs es h.1)

found_above : (r a : ℕ) (f : Feature) (x : Finding) (e : Entry) (xs : List Finding) (es : List Entry) → IsNewEntry r a f x e
    → Every (λ (y : Finding). x.other < y.other) xs → Paired (IsNewEntry r a f) xs es → Every (IsKeyBelow e) es
found_above r a f x e [] [] n u h = tt
found_above r a f x e [] (d ∷ es) n u h = absurd h
found_above r a f x e (y ∷ xs) [] n u h = absurd h
found_above r a f x e (y ∷ xs) (d ∷ es) n u h = (
  key_below e d (n.rule ∙ sym h.0.rule) (n.subject ∙ sym h.0.subject) (rw (n.other, h.0.other) u.0),
  found_above r a f x e xs es n u.1
      h.1,
)
  where
    key_below : (e d : Entry) → e.rule ≡ d.rule → e.subject ≡ d.subject → e.other < d.other → IsKeyBelow e d
    key_below e d p q l = inr (p, inr (q, l))

found_ascend : (r a : ℕ) (f : Feature) (xs : List Finding) (es : List Entry) → AreInOrder xs → Paired (IsNewEntry r a f) xs es
    → IsAscending es
found_ascend r a f [] [] u h = tt
found_ascend r a f [] (e ∷ es) u h = absurd h
found_ascend r a f (x ∷ xs) [] u h = absurd h
found_ascend r a f (x ∷ xs) (e ∷ es) u h = (found_above r a f x e xs es h.0 u.0 h.1, found_ascend r a f xs es u.1 h.1)

pick_alike : (t : Bool) (f : Feature) (x : Finding) (e : Entry) (o : Option Finding) (q : Option Entry) → IsEntryOf f x e → AreAlike f o q
    → AreAlike f (cond t (Some x) o) (cond t (Some e) q)
pick_alike true f x e o q h k = h
pick_alike false f x e o q h k = k

key_as : (e : Entry) (r a b c : ℕ) → e.rule ≡ r → e.subject ≡ a → e.other ≡ c → has_key e r a b ≡ (c == b)
key_as e r a b c p q o = rw (p, q, o) (grind (arith, nat_tests))

-- at each partner the entry is that of the finding
pub found_alike : (r a : ℕ) (f : Feature) (xs : List Finding) (es : List Entry) → Paired (IsNewEntry r a f) xs es → AreOf f xs es r a
unfolding entry_at finding_at
found_alike r a f [] [] h b = tt
found_alike r a f [] (e ∷ es) h b = absurd h
found_alike r a f (x ∷ xs) [] h b = absurd h
found_alike r a f (x ∷ xs) (e ∷ es) h b =
    rw (key_as e r a b x.other h.0.rule h.0.subject h.0.other) (pick_alike (x.other == b) f x e (finding_at xs b) (entry_at es r a b)
    h.0.found (found_alike r a f xs es h.1 b))

-- ---- a subject
subject_of : (M : Meaning) (F : List Feature) (r : ℕ) (row : Row) (a : ℕ) (es : List Entry) → IsSubjectPart M F r row a es
    → Every (OfSubject r a) es
subject_of M F r row a es h = elim (there_or_not (feature_at F a)) [
  | inl f ↦ let l = h.live f.0 f.1 in found_of r a f.0 l.0 es l.3
  | inr n ↦ rw (h.dead n) tt
]

pub subject_ascends : (M : Meaning) (F : List Feature) (r : ℕ) (row : Row) (a : ℕ) (es : List Entry) → IsSubjectPart M F r row a es
    → IsAscending es
subject_ascends M F r row a es h = elim (there_or_not (feature_at F a)) [
  | inl f ↦ let l = h.live f.0 f.1 in found_ascend r a f.0 l.0 es l.2 l.3
  | inr n ↦ rw (h.dead n) tt
]

-- ---- a rule
abbrev pub OfRule : ℕ → List ℕ → Entry → Type 0
OfRule r selected e = (e.rule ≡ r) × IsAmong e.subject selected × (e.marked ≡ false)

module _ (M : Meaning) (F : List Feature) (r : ℕ) (row : Row) where
  rule_of : (selected : List ℕ) (es : List Entry) → IsJoined (IsSubjectPart M F r row) selected es → Every (OfRule r selected) es
  rule_of [] es h = rw h tt
  rule_of (a ∷ selected) es h =
      rw h.1.1.0 (every_append (OfRule r (a ∷ selected)) h.0 h.1.0
      (every_map (OfSubject r a) (OfRule r (a ∷ selected)) (λ e k. (k.0, inl k.1, k.2)) h.0 (subject_of M F r row a h.0 h.1.1.1))
      (every_map (OfRule r selected) (OfRule r (a ∷ selected)) (λ e k. (k.0, inr k.1, k.2)) h.1.0 (rule_of selected h.1.0 h.1.1.2)))

  rule_ascends : (selected : List ℕ) (es : List Entry) → IsRising selected → IsJoined (IsSubjectPart M F r row) selected es → IsAscending es
  rule_ascends [] es u h = rw h tt
  rule_ascends (a ∷ selected) es u h =
      rw h.1.1.0 (ascending_append by_key keys h.0 h.1.0 (subject_ascends M F r row a h.0 h.1.1.1) (rule_ascends selected h.1.0 u.1 h.1.1.2)
      (every_map (OfSubject r a) (λ e. Every (IsKeyBelow e) h.1.0)
      (λ e k. every_map (OfRule r selected) (IsKeyBelow e) (λ d m. below e d (k.0 ∙ sym m.0) k.1 (below_each a d.subject selected u.0 m.1))
      h.1.0 (rule_of selected h.1.0 h.1.1.2))
      h.0 (subject_of M F r row a h.0 h.1.1.1)))
    where
      below : (e d : Entry) → e.rule ≡ d.rule → e.subject ≡ a → a < d.subject → IsKeyBelow e d
      below e d p q l = inr (p, inl (rw q l))

  -- a selected subject has its part
  rule_part : (selected : List ℕ) (es : List Entry) (a : ℕ) → IsRising selected → IsJoined (IsSubjectPart M F r row) selected es
      → IsAmong a selected
      → (part : List Entry) × IsSubjectPart M F r row a part × ((b : ℕ) → entry_at es r a b ≡ entry_at part r a b)
  rule_part [] es a u h i = absurd i
  rule_part (x ∷ selected) es a u h i = elim i [
    | inl e ↦ (
      h.0,
      rw e h.1.1.1,
      λ b. rw h.1.1.0 (before_back h.0 h.1.0 r a b (every_map (OfRule r selected) (Lacks r a b)
          (λ d k. of_other_subject r a b d (λ q. let y = below_each x d.subject selected u.0 k.1 in omega arith)) h.1.0
          (rule_of selected h.1.0 h.1.1.2))),
    )
    | inr m ↦
        let k = rule_part selected h.1.0 a u.1 h.1.1.2 m in
        let y = below_each x a selected u.0 m in (
          k.0,
          k.1,
          λ b. rw h.1.1.0 (past_front h.0 h.1.0 r a b (every_map (OfSubject r x) (Lacks r a b)
              (λ d j. of_other_subject r a b d (λ q. let z = j.1 in omega arith)) h.0 (subject_of M F r row x h.0 h.1.1.1)) ∙ k.2 b),
        )
  ]

-- ---- all rules
abbrev pub IsNumber : ℕ → List InForce → Type 0
IsNumber n rules = SomeOf (λ (q : InForce). n ≡ q.number) rules

abbrev pub OfRules : List InForce → List ℕ → Entry → Type 0
OfRules rules selected e = IsNumber e.rule rules × IsAmong e.subject selected × (e.marked ≡ false)

below_number : (m n : ℕ) (rules : List InForce) → Every (λ (q : InForce). m < q.number) rules → IsNumber n rules → m < n
below_number m n [] h k = absurd k
below_number m n (q ∷ rules) h k = elim k [ inl e ↦ omega (arith, h.0) | inr i ↦ below_number m n rules h.1 i ]

number_of : (rules : List InForce) (n : ℕ) (row : Row) → rule_at rules n ≡ Some row → IsNumber n rules
unfolding rule_at
number_of [] n row e = cc
number_of (q ∷ rules) n row e = elim (eqb_tells q.number n) [
  | inl t ↦ inl (sym t.1)
  | inr t ↦ inr (number_of rules n row (rw t.0 at e))
]

not_number : (rules : List InForce) (n : ℕ) → rule_at rules n ≡ None → IsNumber n rules → ⊥
unfolding rule_at
not_number [] n e h = h
not_number (q ∷ rules) n e h = elim (eqb_tells q.number n) [
  | inl t ↦ let k = rw t.0 at e in absurd cc
  | inr t ↦ elim h [ inl k ↦ t.1 (sym k) | inr m ↦ not_number rules n (rw t.0 at e) m ]
]

module _ (M : Meaning) (F : List Feature) (selected : List ℕ) where
  rules_of : (rules : List InForce) (es : List Entry) → IsJudging M F rules selected es → Every (OfRules rules selected) es
  rules_of [] es h = rw h tt
  rules_of (q ∷ rules) es h =
      rw h.1.1.0 (every_append (OfRules (q ∷ rules) selected) h.0 h.1.0
      (every_map (OfRule q.number selected) (OfRules (q ∷ rules) selected) (λ e k. (inl k.0, k.1, k.2)) h.0
      (rule_of M F q.number q.row selected h.0 h.1.1.1))
      (every_map (OfRules rules selected) (OfRules (q ∷ rules) selected) (λ e k. (inr k.0, k.1, k.2)) h.1.0 (rules_of rules h.1.0 h.1.1.2)))

  -- the new entries ascend by key
  pub judging_ascends : (rules : List InForce) (es : List Entry) → AreAscending rules → IsRising selected → IsJudging M F rules selected es
      → IsAscending es
  judging_ascends [] es v u h = rw h tt
  judging_ascends (q ∷ rules) es v u h =
      rw h.1.1.0 (ascending_append by_key keys h.0 h.1.0 (rule_ascends M F q.number q.row selected h.0 u h.1.1.1)
      (judging_ascends rules h.1.0 v.1 u h.1.1.2)
      (every_map (OfRule q.number selected) (λ e. Every (IsKeyBelow e) h.1.0)
      (λ e k. every_map (OfRules rules selected) (IsKeyBelow e) (λ d m. below e d k.0 (below_number q.number d.rule rules v.0 m.0)) h.1.0
      (rules_of rules h.1.0 h.1.1.2))
      h.0 (rule_of M F q.number q.row selected h.0 h.1.1.1)))
    where
      below : (e d : Entry) → e.rule ≡ q.number → q.number < d.rule → IsKeyBelow e d
      below e d p l = inl (rw p l)

  -- they have no mark and are of selected subjects
  pub judging_fresh : (rules : List InForce) (es : List Entry) → IsJudging M F rules selected es → AreFresh selected es
  judging_fresh rules es h = every_map (OfRules rules selected) (IsNewOf selected)
      (λ e k. record { unmarked = k.2; chosen = contains_among selected e.subject k.1 }) es (rules_of rules es h)

  -- a rule that is not in force has none
  pub judging_idle : (rules : List InForce) (es : List Entry) (r a b : ℕ) → IsJudging M F rules selected es → rule_at rules r ≡ None
      → entry_at es r a b ≡ None
  judging_idle rules es r a b h n = none_at es r a b (every_map (OfRules rules selected) (Lacks r a b)
      (λ d k. of_other_rule r a b d (λ q. not_number rules r n (rw q at k.0))) es (rules_of rules es h))

  -- a rule in force and a selected subject have their part
  pub judging_part : (rules : List InForce) (es : List Entry) (r : ℕ) (row : Row) (a : ℕ) → AreAscending rules → IsRising selected
      → IsJudging M F rules selected es → rule_at rules r ≡ Some row → IsAmong a selected
      → (part : List Entry) × IsSubjectPart M F r row a part × ((b : ℕ) → entry_at es r a b ≡ entry_at part r a b)
  unfolding rule_at
  judging_part [] es r row a v u h e i = cc
  judging_part (q ∷ rules) es r row a v u h e i = elim (eqb_tells q.number r) [
    | inl t ↦
        let same : q.row ≡ row = (let l : Some q.row ≡ Some row = rw t.0 at e in cc) in
        let k = rule_part M F r row selected h.0 a u (rw (← t.1, ← same) h.1.1.1) i in (
          k.0,
          k.1,
          λ b. rw h.1.1.0 (before_back h.0 h.1.0 r a b (every_map (OfRules rules selected) (Lacks r a b)
              (λ d j. of_other_rule r a b d (λ p. let y = below_number q.number d.rule rules v.0 j.0 in let n = t.1 in omega arith)) h.1.0
              (rules_of rules h.1.0 h.1.1.2)) ∙ k.2 b),
        )
    | inr t ↦
        let later = rw t.0 at e in
        let k = judging_part rules h.1.0 r row a v.1 u h.1.1.2 later i in
        let y = below_number q.number r rules v.0 (number_of rules r row later) in (
          k.0,
          k.1,
          λ b. rw h.1.1.0 (past_front h.0 h.1.0 r a b (every_map (OfRule q.number selected) (Lacks r a b)
              (λ d j. of_other_rule r a b d (λ p. let z = j.0 in omega arith)) h.0 (rule_of M F q.number q.row selected h.0 h.1.1.1))
              ∙ k.2 b),
        )
  ]

-- A rule more in an ascending list.
use Rattle.std.proofs.Common.{◌≡◌, ◌≢◌, inl, inr, ℕ, zero, suc, ◌<◌, ◌≤◌, ◌+◌, Bool, true, false, List, [], ◌∷◌, Some, None, length, drop, get_or, refl, sym, subst, ap, ◌∙◌, arith, ltb}
use Rattle.std.specs.Prelude.{is_some, insert, filter, cond, ◌⊎◌, ◌==◌, if◌then◌else◌}
use Rattle.std.proofs.lemmas.Bool.{eq-eqb, ne_eqb, cases_lt, lt-ltb, le-ltb}
use Rattle.std.proofs.lemmas.Bool.Decides.{nat_tests, eqb_tells}
use Rattle.plane_terms.specs.Lists.{Every, EveryPair}
use Rattle.plane_terms.proofs.ListLemmas.{every_map, every_filter}
use Rattle.topology_terms.specs.Project.{InForce, by_number, AreAscending, rule_at}
use Rattle.sound_laws.proofs.Keyed.{after_later, contained_found}
use Rattle.sound_laws.proofs.RuleLists.{rule_numbers, at_number, past_number, rule_found}
use Rattle.topo_core.specs.RuleLists.{lower_from, with_rule}

-- ---- the least free number: the first from n on that no rule of the ascending list has
abbrev pub run_on : ℕ → List InForce → ℕ
run_on n [] = n
run_on n (q ∷ qs) = if q.number == n then run_on (n + 1) qs else run_on n qs

run_from : (qs : List InForce) (n : ℕ) → n ≤ run_on n qs
run_from [] n = omega arith
run_from (q ∷ qs) n = elim (eqb_tells q.number n) [
  | inl t ↦ let l = run_from qs (n + 1) in rw t.0 (omega (arith, l))
  | inr t ↦ rw t.0 (run_from qs n)
]

run_upto : (qs : List InForce) (n : ℕ) → run_on n qs ≤ n + length qs
run_upto [] n = omega arith
run_upto (q ∷ qs) n = elim (eqb_tells q.number n) [
  | inl t ↦ let l = run_upto qs (n + 1) in rw t.0 (omega (arith, l))
  | inr t ↦ let l = run_upto qs n in rw t.0 (omega (arith, l))
]

run_above : (qs : List InForce) (n : ℕ) (m : ℕ) → n ≤ m → Every (λ (q : InForce). m < q.number) qs → run_on n qs ≡ n
run_above [] n m l h = refl
run_above (q ∷ qs) n m l h = rw (ne_eqb q.number n (λ e. let k = h.0 in omega arith)) (run_above qs n m l h.1)

pub run_free : (qs : List InForce) (n : ℕ) → AreAscending qs → rule_at qs (run_on n qs) ≡ None
unfolding rule_at
run_free [] n a = refl
run_free (q ∷ qs) n a = elim (eqb_tells q.number n) [
  | inl t ↦
      let m = run_on (n + 1) qs in
      let l = run_from qs (n + 1) in
      let on : m ≡ run_on n (q ∷ qs) = rw t.0 refl in
      subst (λ k. rule_at (q ∷ qs) k ≡ None) on (past_number q qs m (ne_eqb q.number m (λ e. let k = t.1 in omega arith))
      ∙ run_free qs (n + 1) a.1)
  | inr t ↦
      let m = run_on n qs in
      let on : m ≡ run_on n (q ∷ qs) = rw t.0 refl in
      subst (λ k. rule_at (q ∷ qs) k ≡ None) on (elim (eqb_tells q.number m) [
        | inl s ↦
            let l = run_from qs n in
            let below : n ≤ q.number = (let k = s.1 in omega arith) in
            absurd (t.1 (s.1 ∙ run_above qs n q.number below a.0))
        | inr s ↦ past_number q qs m s.0 ∙ run_free qs n a.1
      ])
]

run_taken : (qs : List InForce) (n k : ℕ) → n ≤ k → k < run_on n qs → is_some (rule_at qs k) ≡ true
unfolding rule_at
run_taken [] n k l u = absurd (omega arith)
run_taken (q ∷ qs) n k l u = elim (eqb_tells q.number k) [
  | inl s ↦ ap is_some (at_number q qs k s.0)
  | inr s ↦ ap is_some (past_number q qs k s.0) ∙ elim (eqb_tells q.number n) [
    | inl t ↦ run_taken qs (n + 1) k (let a = s.1 in let b = t.1 in omega arith) (rw t.0 at u)
    | inr t ↦ run_taken qs n k l (rw t.0 at u)
  ]
]

-- from 1 on it is the least that is free
pub run_least : (rs : List InForce) (k : ℕ) → 1 ≤ k → k < run_on 1 rs → rule_at rs k ≢ None
run_least rs k l u e = let t = run_taken rs 1 k l u in let f : is_some (rule_at rs k) ≡ false = rw e refl in cc

pub run_from_1 : (rs : List InForce) → 1 ≤ run_on 1 rs
run_from_1 rs = run_from rs 1

end_drop : (rs : List InForce) (i : ℕ) → length rs ≤ i → drop i rs ≡ []
end_drop [] zero l = refl
end_drop [] (suc i) l = refl
end_drop (q ∷ rs) zero l = absurd (omega arith)
end_drop (q ∷ rs) (suc i) l = end_drop rs i (omega arith)

pub run_ends : (rs : List InForce) (i m : ℕ) → length rs ≤ i → run_on m (drop i rs) ≡ run_on 1 rs → m ≡ run_on 1 rs
run_ends rs i m l e = subst (λ g. run_on m g ≡ run_on 1 rs) (end_drop rs i l) e

-- ---- a rule of a row
pub row_at : (rs : List InForce) (i : ℕ) (q : InForce) → AreAscending rs → i < length rs → q ≡ get_or rs i q
    → rule_at rs q.number ≡ Some q.row
row_at rs i q a below is = rule_found rs q.number q (contained_found by_number rule_numbers rs q a (i, below, sym is))

-- ---- a rule put at its place
lower_or_not : (m n : ℕ) → ((ltb m n ≡ true) × (m < n)) ⊎ ((ltb m n ≡ false) × (n ≤ m))
lower_or_not m n = elim (cases_lt m n) [ inl l ↦ inl (lt-ltb m n l, l) | inr l ↦ inr (le-ltb m n l, l) ]

lower_shift : (qs : List InForce) (i n : ℕ) → lower_from (i + 1) n qs ≡ suc (lower_from i n qs)
lower_shift [] i n = omega arith
lower_shift (q ∷ qs) i n = elim (lower_or_not q.number n) [
  | inl t ↦ rw t.0 (lower_shift qs (i + 1) n)
  | inr t ↦ rw t.0 (lower_shift qs i n)
]

lower_none : (qs : List InForce) (n m : ℕ) → n ≤ m → Every (λ (q : InForce). m < q.number) qs → lower_from 0 n qs ≡ 0
lower_none [] n m l h = refl
lower_none (q ∷ qs) n m l h =
    let t : ltb q.number n ≡ false = (let k = h.0 in grind (arith, nat_tests)) in
    rw t (lower_none qs n m l h.1)

pub insert_is : (rs : List InForce) (r : InForce) → AreAscending rs → insert rs (lower_from 0 r.number rs) r ≡ with_rule rs r
insert_is [] r a = refl
insert_is (q ∷ qs) r a = elim (lower_or_not q.number r.number) [
  | inl t ↦ rw (t.0, lower_shift qs 0 r.number) (ap (λ g. q ∷ g) (insert_is qs r a.1))
  | inr t ↦ rw (t.0, lower_none qs r.number q.number t.1 a.0) refl
]

pub with_here : (rs : List InForce) (r : InForce) → rule_at rs r.number ≡ None → rule_at (with_rule rs r) r.number ≡ Some r.row
unfolding rule_at
with_here [] r e = at_number r [] r.number (eq-eqb r.number r.number refl)
with_here (q ∷ qs) r e = elim (eqb_tells q.number r.number) [
  | inl s ↦ absurd (let k : None ≡ Some q.row = sym e ∙ at_number q qs r.number s.0 in cc)
  | inr s ↦ elim (lower_or_not q.number r.number) [
    | inl t ↦ rw t.0 (past_number q (with_rule qs r) r.number s.0 ∙ with_here qs r (sym (past_number q qs r.number s.0) ∙ e))
    | inr t ↦ rw t.0 (at_number r (q ∷ qs) r.number (eq-eqb r.number r.number refl))
  ]
]

pub with_others : (rs : List InForce) (r : InForce) (k : ℕ) → k ≢ r.number → rule_at (with_rule rs r) k ≡ rule_at rs k
unfolding rule_at
with_others [] r k n = past_number r [] k (ne_eqb r.number k (λ e. n (sym e)))
with_others (q ∷ qs) r k n = elim (lower_or_not q.number r.number) [
  | inl t ↦ rw t.0 (elim (eqb_tells q.number k) [
    | inl s ↦ at_number q (with_rule qs r) k s.0 ∙ sym (at_number q qs k s.0)
    | inr s ↦ past_number q (with_rule qs r) k s.0 ∙ (with_others qs r k n ∙ sym (past_number q qs k s.0))
  ])
  | inr t ↦ rw t.0 (past_number r (q ∷ qs) k (ne_eqb r.number k (λ e. n (sym e))))
]

pub with_length : (rs : List InForce) (r : InForce) → length (with_rule rs r) ≡ length rs + 1
with_length [] r = omega arith
with_length (q ∷ qs) r = elim (lower_or_not q.number r.number) [
  | inl t ↦ let l = with_length qs r in rw t.0 (omega (arith, l))
  | inr t ↦ rw t.0 (omega arith)
]

pub with_every : (P : InForce → Type 0) (rs : List InForce) (r : InForce) → Every P rs → P r → Every P (with_rule rs r)
with_every P [] r h p = (p, tt)
with_every P (q ∷ qs) r h p = elim (lower_or_not q.number r.number) [
  | inl t ↦ rw t.0 (h.0, with_every P qs r h.1 p)
  | inr t ↦ rw t.0 (p, h)
]

pub with_ascending : (rs : List InForce) (r : InForce) → rule_at rs r.number ≡ None → AreAscending rs → AreAscending (with_rule rs r)
with_ascending [] r e a = (tt, tt)
with_ascending (q ∷ qs) r e a = elim (eqb_tells q.number r.number) [
  | inl s ↦ absurd (let k : None ≡ Some q.row = sym e ∙ at_number q qs r.number s.0 in cc)
  | inr s ↦ elim (lower_or_not q.number r.number) [
    | inl t ↦ rw t.0 (
      with_every (λ (x : InForce). q.number < x.number) qs r a.0 t.1,
      with_ascending qs r
          (sym (past_number q qs r.number s.0) ∙ e) a.1,
    )
    | inr t ↦
        let d = s.1 in
        let l = t.1 in
        let less : r.number < q.number = omega arith in
        rw t.0 ((less, after_later by_number rule_numbers r.number q.number qs less a.0), a)
  ]
]

-- a rule more in a list of which each two rules keep a relation that goes both ways
pub with_pairs : (P : InForce → InForce → Type 0) → ((q r : InForce) → P q r → P r q) → (rs : List InForce) (r : InForce)
    → Every (λ (q : InForce). P q r) rs → EveryPair P rs → EveryPair P (with_rule rs r)
with_pairs P back [] r h pairs = (tt, tt)
with_pairs P back (q ∷ qs) r h pairs = elim (lower_or_not q.number r.number) [
  | inl t ↦ rw t.0 (with_every (P q) qs r pairs.0 h.0, with_pairs P back qs r h.1 pairs.1)
  | inr t ↦ rw t.0 (every_map (λ (x : InForce). P x r) (P r) (λ x k. back x r k) (q ∷ qs) h, pairs)
]

pub pairs_filter : (P : InForce → InForce → Type 0) (test : InForce → Bool) (rs : List InForce) → EveryPair P rs
    → EveryPair P (filter test rs)
pairs_filter P test [] pairs = tt
pairs_filter P test (q ∷ qs) pairs = by (test q) (every_filter (P q) test qs pairs.0) (pairs_filter P test qs pairs.1)
  where
    by : (b : Bool) → Every (P q) (filter test qs) → EveryPair P (filter test qs)
        → EveryPair P (cond b (q ∷ filter test qs) (filter test qs))
    by true h rest = (h, rest)
    by false h rest = rest

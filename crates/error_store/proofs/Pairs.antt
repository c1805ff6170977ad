-- Errors in runs: the runs of a map, one after another, ascend by key, and the error of a key stands in the run of its pair.
use Rattle.std.proofs.Common.{◌≡◌, ◌⊎◌, inl, inr, ℕ, ◌<◌, true, false, arith, refl, sym, ◌∙◌, ap, subst, List, [], ◌∷◌, get_or, Option, None, Some}
use Rattle.std.specs.BTreeMap.{BTreeMap, IsOrdered, get, is_at}
use Rattle.std.specs.Cmp.{IsTotalOrder}
use Rattle.std.specs.Global.{Vec}
use Rattle.std.specs.List.Sorted.{IsStrictlySortedBy}
use Rattle.std.specs.Map.{keys_of, values_of, lookup}
use Rattle.std.specs.Ordering.{nat_cmp}
use Rattle.std.specs.declared.cmp.Ordering.{Ordering}
use Rattle.std.specs.declared.cmp.Ordering.TheVariants.{Less, Equal, Greater}
use Rattle.std.proofs.lemmas.Bool.{cases_Bool}
use Rattle.std.proofs.lemmas.Cmp.{ranked, nat_cmp_total, on_total, then_total}
use Rattle.std.proofs.lemmas.List.Elements.{recursion_from_All}
use Rattle.std.proofs.lemmas.Map.Views.{All-found}
use Rattle.std.proofs.lemmas.Map.Keys.{sorted_head, sorted_tail}
use Rattle.plane_terms.specs.Lists.{Every}
use Rattle.plane_terms.proofs.ListLemmas.{every_append, every_map}
use Rattle.topology_terms.specs.Entry.{Entry, key_of, by_key, has_key, entry_at, IsBefore, IsAscending}
use Rattle.sound_laws.proofs.Keyed.{AllAfter, ascending_append}
use Rattle.sound_laws.proofs.Lists.{keys, Lacks, has_parts, past_front, before_back}
use Rattle.error_store.specs.Pairs.{pair, pair_cmp, IsPairBefore, entries_in, all_entries, IsOf, IsRunOf, AreRuns}
use Rattle.error_store.specs.declared.pair.Pair.{Pair}

-- ---- pairs
pub pairs_total : IsTotalOrder pair_cmp
pairs_total = then_total (on_total (λ (p : Pair). p.rule) nat_cmp_total) (on_total (λ (p : Pair). p.subject) nat_cmp_total)

one_pair : (p q : Pair) → p.rule ≡ q.rule → p.subject ≡ q.subject → p ≡ q
one_pair p q r a = by p.rule p.subject q.rule q.subject r a
  where
    by : (r a s b : ℕ) → r ≡ s → a ≡ b → pair r a ≡ pair s b
    by r a s b e f = rw (e, f) refl

abbrev CmpOfNumbers : ℕ → ℕ → Type 0
CmpOfNumbers m n = ((nat_cmp m n ≡ Less) × (m < n)) ⊎ (((nat_cmp m n ≡ Equal) × (m ≡ n)) ⊎ ((nat_cmp m n ≡ Greater) × (n < m)))

of_numbers : (m n : ℕ) → CmpOfNumbers m n
of_numbers m n = by (nat_cmp m n) refl
  where
    by : (o : Ordering) → o ≡ nat_cmp m n → CmpOfNumbers m n
    by Less e = inl (sym e, ranked m n Less e)
    by Equal e = inr (inl (sym e, ranked m n Equal e))
    by Greater e = inr (inr (sym e, ranked m n Greater e))

-- what the order of two pairs says
abbrev pub CmpOfPairs : Pair → Pair → Type 0
CmpOfPairs p q = ((pair_cmp p q ≡ Less) × IsPairBefore p q) ⊎ (((pair_cmp p q ≡ Equal) × (p ≡ q)) ⊎ ((pair_cmp p q ≡ Greater) × IsPairBefore q p))

pub of_pairs : (p q : Pair) → CmpOfPairs p q
of_pairs p q = elim (of_numbers p.rule q.rule) [
  | inl r ↦ inl (rw r.0 refl, inl r.1)
  | inr s ↦ elim s [
    | inl r ↦ elim (of_numbers p.subject q.subject) [
      | inl a ↦ inl (rw (r.0, a.0) refl, inr (r.1, a.1))
      | inr b ↦ elim b [
        | inl a ↦ inr (inl (rw (r.0, a.0) refl, one_pair p q r.1 a.1))
        | inr a ↦ inr (inr (rw (r.0, a.0) refl, inr (sym r.1, a.1)))
      ]
    ]
    | inr r ↦ inr (inr (rw r.0 refl, inl r.1))
  ]
]

pub less_before : (p q : Pair) → pair_cmp p q ≡ Less → IsPairBefore p q
less_before p q e = elim (of_pairs p q) [
  | inl a ↦ a.1
  | inr s ↦ elim s [
    | inl a ↦ let w : Less ≡ Equal = sym e ∙ a.0 in absurd cc
    | inr a ↦ let w : Less ≡ Greater = sym e ∙ a.0 in absurd cc
  ]
]

-- a query finds the pair, or it is another
abbrev pub IsThisPair : Pair → Pair → Type 0
IsThisPair p q = ((is_at (pair_cmp p) q ≡ true) × (p ≡ q)) ⊎ ((is_at (pair_cmp p) q ≡ false) × ¬ (p ≡ q))

pub this_pair : (p q : Pair) → IsThisPair p q
this_pair p q = elim (of_pairs p q) [
  | inl a ↦ inr (rw a.0 refl, λ e. apart p q (a.1) e)
  | inr s ↦ elim s [
    | inl a ↦ inl (rw a.0 refl, a.1)
    | inr a ↦ inr (rw a.0 refl, λ e. apart q p (a.1) (sym e))
  ]
]
  where
    apart : (p q : Pair) → IsPairBefore p q → p ≡ q → ⊥
    apart p q l e =
        let r : p.rule ≡ q.rule = ap (λ (x : Pair). x.rule) e in
        let a : p.subject ≡ q.subject = ap (λ (x : Pair). x.subject) e in
        omega arith

-- ---- runs, one after another
abbrev pub Run : Type 0
Run = Pair × Vec Entry

abbrev pub AreRunsIn : List Run → Type 0
AreRunsIn rs = Every (λ (q : Run). IsRunOf q.0 q.1.items) rs

abbrev pub AreInOrder : List Run → Type 0
AreInOrder rs = IsStrictlySortedBy pair_cmp (keys_of rs)

-- the error is of a later pair
abbrev pub IsLater : Pair → Entry → Type 0
IsLater p e = IsPairBefore p (pair e.rule e.subject)

later_of : (p q : Pair) → IsPairBefore p q → (e : Entry) → IsOf q.rule q.subject e → IsLater p e
later_of p q l e o = rw (o.rule, o.subject) l

pub all_later : (p : Pair) (rs : List Run) → Every (λ (q : Pair). pair_cmp p q ≡ Less) (keys_of rs) → AreRunsIn rs
    → Every (IsLater p) (entries_in (values_of rs))
all_later p [] l h = tt
all_later p (q ∷ rs) l h = every_append (IsLater p) q.1.items (entries_in (values_of rs))
    (every_map (IsOf q.0.rule q.0.subject) (IsLater p) (later_of p q.0 (less_before p q.0 l.0)) q.1.items h.0.1)
    (all_later p rs l.1 h.1)

pub before_later : (p : Pair) (e f : Entry) → IsOf p.rule p.subject e → IsLater p f → IsBefore (key_of e) (key_of f)
before_later p e f o l = by p.rule p.subject e.rule e.subject f.rule f.subject e.other f.other o.rule o.subject l
  where
    by : (r a s b t c m n : ℕ) → s ≡ r → b ≡ a → (r < t) ⊎ ((r ≡ t) × (a < c)) → IsBefore (s, b, m) (t, c, n)
    by r a s b t c m n e f l = grind arith

all_after : (p : Pair) (es fs : List Entry) → Every (IsOf p.rule p.subject) es → Every (IsLater p) fs
    → Every (λ (e : Entry). AllAfter by_key keys (key_of e) fs) es
all_after p es fs o l = every_map (IsOf p.rule p.subject) (λ (e : Entry). AllAfter by_key keys (key_of e) fs)
    (λ e own. every_map (IsLater p) (λ (f : Entry). IsBefore (key_of e) (key_of f)) (λ f m. before_later p e f own m) fs l) es o

pub runs_rise : (rs : List Run) → AreInOrder rs → AreRunsIn rs → IsAscending (entries_in (values_of rs))
runs_rise [] s h = tt
runs_rise (q ∷ rs) s h = ascending_append by_key keys q.1.items (entries_in (values_of rs)) h.0.0
    (runs_rise rs (sorted_tail pair_cmp q.0 (keys_of rs) s) h.1)
    (all_after q.0 q.1.items (entries_in (values_of rs)) h.0.1 (all_later q.0 rs (sorted_head pair_cmp q.0 (keys_of rs) s) h.1))

pub runs_ascend : (m : BTreeMap Pair (Vec Entry)) → IsOrdered pair_cmp m → AreRuns m → IsAscending (all_entries m)
runs_ascend m s h = runs_rise m.entries s h

-- ---- the error of a key
-- what a run has at the key, where there is one
abbrev pub found_in : Option (Vec Entry) → ℕ → ℕ → ℕ → Option Entry
found_in None r a b = None
found_in (Some v) r a b = entry_at v.items r a b

pub other_lacks : (p : Pair) (r a b : ℕ) → ¬ (pair r a ≡ p) → (e : Entry) → IsOf p.rule p.subject e → Lacks r a b e
other_lacks p r a b n e o = elim (cases_Bool (has_key e r a b)) [
  | inl t ↦
      let k = has_parts e r a b t in
      absurd (n (one_pair (pair r a) p (sym k.0 ∙ o.rule) (sym k.1 ∙ o.subject)))
  | inr f ↦ f
]

pub later_lacks : (p : Pair) (r a b : ℕ) → pair r a ≡ p → (e : Entry) → IsLater p e → Lacks r a b e
later_lacks p r a b s e l = elim (cases_Bool (has_key e r a b)) [
  | inl t ↦
      let k = has_parts e r a b t in
      let x : r ≡ p.rule = ap (λ (x : Pair). x.rule) s in
      let y : a ≡ p.subject = ap (λ (x : Pair). x.subject) s in
      absurd (omega (arith, k.0, k.1))
  | inr f ↦ f
]

pub at_pair_in : (rs : List Run) → AreInOrder rs → AreRunsIn rs → (r a b : ℕ)
    → entry_at (entries_in (values_of rs)) r a b ≡ found_in (lookup (is_at (pair_cmp (pair r a))) rs) r a b
unfolding entry_at
at_pair_in [] s h r a b = refl
at_pair_in (q ∷ rs) s h r a b =
    let rest = entries_in (values_of rs) in
    elim (this_pair (pair r a) q.0) [
      | inl t ↦
          let later = all_later q.0 rs (sorted_head pair_cmp q.0 (keys_of rs) s) h.1 in
          rw t.0 (before_back q.1.items rest r a b (every_map (IsLater q.0) (Lacks r a b) (later_lacks q.0 r a b t.1) rest later))
      | inr t ↦
          rw t.0 (past_front q.1.items rest r a b (every_map (IsOf q.0.rule q.0.subject) (Lacks r a b) (other_lacks q.0 r a b t.1) q.1.items h.0.1)
          ∙ at_pair_in rs (sorted_tail pair_cmp q.0 (keys_of rs) s) h.1 r a b)
    ]

pub at_pair : (m : BTreeMap Pair (Vec Entry)) → IsOrdered pair_cmp m → AreRuns m → (r a b : ℕ)
    → entry_at (all_entries m) r a b ≡ found_in (get pair_cmp m (pair r a)) r a b
at_pair m s h r a b = at_pair_in m.entries s h r a b

-- ---- the run of a pair
pub run_in : (rs : List Run) (p : Pair) (v : Vec Entry) → AreRunsIn rs → lookup (is_at (pair_cmp p)) rs ≡ Some v → IsRunOf p v.items
run_in [] p v h e = let w : None ≡ Some v = e in absurd cc
run_in (q ∷ rs) p v h e = elim (this_pair p q.0) [
  | inl t ↦
      let f : Some q.1 ≡ Some v = rw t.0 at e in
      let same : q.1 ≡ v = cc in
      subst (λ (x : Vec Entry). IsRunOf p x.items) same (subst (λ (x : Pair). IsRunOf x q.1.items) (sym t.1) h.0)
  | inr t ↦ run_in rs p v h.1 (rw t.0 at e)
]

pub run_at : (m : BTreeMap Pair (Vec Entry)) (p : Pair) (v : Vec Entry) → AreRuns m → get pair_cmp m p ≡ Some v → IsRunOf p v.items
run_at m p v h e = run_in m.entries p v h e

-- what is so of the run of each pair is so of all
pub runs_from_get : (m : BTreeMap Pair (Vec Entry)) → IsOrdered pair_cmp m
    → ((p : Pair) (v : Vec Entry) → get pair_cmp m p ≡ Some v → IsRunOf p v.items) → AreRuns m
runs_from_get m s h = recursion_from_All (λ (q : Run). IsRunOf q.0 q.1.items) m.entries (λ k d l.
    let q = get_or m.entries k d in
    h q.0 q.1 (All-found pairs_total m s k d l))

-- a run has the errors of its pair, and where there is none there is no error
pub at_run : (m : BTreeMap Pair (Vec Entry)) → IsOrdered pair_cmp m → AreRuns m → (p : Pair) (o : Option (Vec Entry)) → get pair_cmp m p ≡ o
    → (b : ℕ) → found_in o p.rule p.subject b ≡ entry_at (all_entries m) p.rule p.subject b
at_run m s h p o e b = sym (at_pair m s h p.rule p.subject b ∙ ap (λ x. found_in x p.rule p.subject b) e)

pub none_at_pair : (m : BTreeMap Pair (Vec Entry)) → IsOrdered pair_cmp m → AreRuns m → (p : Pair) → get pair_cmp m p ≡ None
    → (b : ℕ) → entry_at [] p.rule p.subject b ≡ entry_at (all_entries m) p.rule p.subject b
unfolding entry_at
none_at_pair m s h p e b = at_run m s h p None e b

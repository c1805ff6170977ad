-- From run to run of a map by pairs, past all that are of none of some subjects.
use Rattle.std.proofs.Common.{◌≡◌, ◌⊎◌, inl, inr, ℕ, ◌<◌, ◌≤◌, ◌-◌, Bool, true, false, List, [], ◌∷◌, length, get_or, arith, Contains, refl, ap, subst, sym, ◌∙◌, Option, Some, None, cond}
use Rattle.std.specs.Prelude.{nat_lt}
use Rattle.std.specs.BTreeMap.{BTreeMap, get, is_at}
use Rattle.std.specs.BTreeMap.Range.{IsRangeOf, IsFromStart, IsLeBy, entries_between, range_contains}
use Rattle.std.specs.Global.{Vec}
use Rattle.std.specs.List.{filter}
use Rattle.std.specs.Map.{lookup}
use Rattle.std.specs.Option.{IsSome}
use Rattle.std.specs.Ordering.{is_gt}
use Rattle.std.specs.declared.cmp.Ordering.TheVariants.{Less}
use Rattle.std.specs.declared.ops.Bound.{Bound}
use Rattle.std.specs.declared.ops.Bound.TheVariants.{Included, Excluded, Unbounded}
use Rattle.std.proofs.lemmas.List.{get_or_default}
use Rattle.std.specs.List.Sorted.{IsStrictlyIncreasing, IsPartitionPoint, IsPartitionedBy}
use Rattle.std.proofs.lemmas.List.Kept.{AllPairs-from_increasing}
use Rattle.std.proofs.lemmas.Bool.{cases_lt}
use Rattle.std.proofs.lemmas.Bool.Decides.{nat_tests}
use Rattle.std.proofs.lemmas.Map.Views.{IsInRange-from_range_contains, range_contains-from_IsInRange}
use Rattle.topology_terms.specs.Entry.{Entry}
use Rattle.error_store.specs.Pairs.{pair, pair_cmp, IsPairBefore}
use Rattle.error_store.specs.Runs.{IsLeastFrom, IsLastOff, HasNoneFrom, IsNextRun}
use Rattle.error_store.specs.declared.pair.Pair.{Pair}
use Rattle.error_store.proofs.Pairs.{Run, pairs_total, of_pairs, less_before, this_pair}

-- ---- where a walk stands
abbrev pub IsFrom : Bound Pair → Pair → Type 0
IsFrom lo p = IsFromStart pair_cmp lo p

-- q is p, or a later pair of its rule
abbrev pub IsUpTo : Pair → Pair → Type 0
IsUpTo p q = (q.rule ≡ p.rule) × (p.subject ≤ q.subject)

later_still : (p q r : Pair) → IsPairBefore p q → IsPairBefore q r → IsPairBefore p r
later_still p q r l m = by p.rule p.subject q.rule q.subject r.rule r.subject l m
  where
    by : (a b c d e f : ℕ) → (a < c) ⊎ ((a ≡ c) × (b < d)) → (c < e) ⊎ ((c ≡ e) × (d < f)) → (a < e) ⊎ ((a ≡ e) × (b < f))
    by a b c d e f l m = grind arith

behind_up_to : (p q r : Pair) → IsUpTo p q → IsPairBefore q r → IsPairBefore p r
behind_up_to p q r u l = by p.rule p.subject q.rule q.subject r.rule r.subject u.0 u.1 l
  where
    by : (a b c d e f : ℕ) → c ≡ a → b ≤ d → (c < e) ⊎ ((c ≡ e) × (d < f)) → (a < e) ⊎ ((a ≡ e) × (b < f))
    by a b c d e f s u l = grind arith

pub never : (p : Pair) → ¬ (IsPairBefore p p)
never p l = elim l [ inl a ↦ absurd (omega (arith, a)) | inr b ↦ absurd (omega (arith, b.1)) ]

pub before_less : (p q : Pair) → IsPairBefore p q → pair_cmp p q ≡ Less
before_less p q l = elim (of_pairs p q) [
  | inl a ↦ a.0
  | inr s ↦ elim s [
    | inl a ↦ absurd (never p (subst (IsPairBefore p) (sym a.1) l))
    | inr a ↦ absurd (never p (later_still p q p l a.1))
  ]
]

-- the pair p is q, or stands before it
not_above : (p q : Pair) → is_gt (pair_cmp p q) ≡ false → IsPairBefore p q ⊎ (p ≡ q)
not_above p q t = elim (of_pairs p q) [
  | inl a ↦ inl a.1
  | inr s ↦ elim s [
    | inl a ↦ inr a.1
    | inr a ↦ let w : true ≡ false = rw a.0 at t in absurd cc
  ]
]

pub from_on : (lo : Bound Pair) (p q : Pair) → IsFrom lo p → IsPairBefore p q → IsFrom lo q
from_on Unbounded p q f l = tt
from_on (Excluded a) p q f l = before_less a q (later_still a p q (less_before a p f) l)
from_on (Included a) p q f l = elim (not_above a p f) [
  | inl k ↦ rw (before_less a q (later_still a p q k l)) refl
  | inr e ↦ rw (before_less a q (subst (λ (x : Pair). IsPairBefore x q) (sym e) l)) refl
]

-- ---- the first run of what is left
pub record IsFirstRun (m : BTreeMap Pair (Vec Entry)) (lo : Bound Pair) (p : Pair) (v : Vec Entry) : Type 0 where
  pub on : IsFrom lo p
  pub run : get pair_cmp m p ≡ Some v
  pub least : (q : Pair) → IsFrom lo q → IsSome (get pair_cmp m q) → IsLeBy pair_cmp p q

pub first_in : (m : BTreeMap Pair (Vec Entry)) (lo : Bound Pair) (r t : List Run) (p : Pair) (v : Vec Entry)
    → IsRangeOf pair_cmp lo Unbounded m r → r ≡ (p, v) ∷ t → IsFirstRun m lo p v
first_in m lo r t p v is e =
    let in_it = rw e at is in
    record { on = in_it.1.0.0; run = in_it.1.1; least = λ q f s. in_it.2 q (f, tt) s }

pub none_in_range : (m : BTreeMap Pair (Vec Entry)) (lo : Bound Pair) (r : List Run) → IsRangeOf pair_cmp lo Unbounded m r → r ≡ []
    → (q : Pair) → IsFrom lo q → get pair_cmp m q ≡ None
none_in_range m lo r is e q f = is.5 e q (f, tt)

none_before : (m : BTreeMap Pair (Vec Entry)) (lo : Bound Pair) (p : Pair) (v : Vec Entry) → IsFirstRun m lo p v
    → (q : Pair) → IsFrom lo q → IsPairBefore q p → get pair_cmp m q ≡ None
none_before m lo p v first q f l = by (get pair_cmp m q) (first.least q f)
  where
    above : is_gt (pair_cmp p q) ≡ false → ⊥
    above t = elim (not_above p q t) [
      | inl k ↦ never p (later_still p q p k l)
      | inr e ↦ never p (subst (λ (x : Pair). IsPairBefore x p) (sym e) l)
    ]

    by : (o : Option (Vec Entry)) → (IsSome o → IsLeBy pair_cmp p q) → o ≡ None
    by None h = refl
    by (Some w) h = absurd (above (h refl))

pub next_here : (handles : List ℕ) (m : BTreeMap Pair (Vec Entry)) (lo : Bound Pair) (p : Pair) (v : Vec Entry) → IsFirstRun m lo p v
    → Contains handles p.subject → IsNextRun handles m lo p v
next_here handles m lo p v first c = record { on = first.on; chosen = c; run = first.run; none = λ q f l _. none_before m lo p v first q f l }

-- ---- past the subjects that are not asked for
not_same : (m n : ℕ) → m ≤ n → ¬ (n ≡ m) → m < n
not_same m n l other = grind arith

pub off_before : (handles : List ℕ) (p : Pair) (a : ℕ) → IsLeastFrom handles p.subject a → ¬ (a ≡ p.subject)
    → IsLastOff handles p (pair p.rule (a - 1))
off_before handles p a least other =
    let further = not_same p.subject a least.beyond other in
    record { rule = refl; on = omega arith; none = λ b c low high. let m = least.least b c low in absurd (omega arith) }

pub off_all : (handles : List ℕ) (p : Pair) (a : ℕ) → ((b : ℕ) → Contains handles b → b < p.subject) → p.subject ≤ a
    → IsLastOff handles p (pair p.rule a)
off_all handles p a none l = record { rule = refl; on = l; none = λ b c low high. let m = none b c in absurd (omega arith) }

-- ---- on the way from lo it has come to hi, and has passed no run of these subjects
pub record IsPast (handles : List ℕ) (m : BTreeMap Pair (Vec Entry)) (lo hi : Bound Pair) : Type 0 where
  pub on : (q : Pair) → IsFrom hi q → IsFrom lo q
  pub none : (q : Pair) → IsFrom lo q → Contains handles q.subject → (get pair_cmp m q ≡ None) ⊎ IsFrom hi q

pub past_none : (handles : List ℕ) (m : BTreeMap Pair (Vec Entry)) (lo : Bound Pair) → IsPast handles m lo lo
past_none handles m lo = record { on = λ q f. f; none = λ q f c. inr f }

pub past_off : (handles : List ℕ) (m : BTreeMap Pair (Vec Entry)) (lo hi : Bound Pair) (p q : Pair) (v : Vec Entry) → IsPast handles m lo hi
    → IsFirstRun m hi p v → IsLastOff handles p q → IsPast handles m lo (Excluded q)
past_off handles m lo hi p q v w first off = record {
  on = λ x l. w.on x (from_on hi p x first.on (behind_up_to p q x (off.rule, off.on) (less_before q x l)));
  none = λ x f c. elim (w.none x f c) [
    | inl n ↦ inl n
    | inr h ↦ elim (of_pairs q x) [
      | inl a ↦ inr a.0
      | inr s ↦ elim s [
        | inl a ↦
            let same : q.subject ≡ x.subject = ap (λ (z : Pair). z.subject) a.1 in
            absurd (off.none x.subject c (omega (arith, off.on, same)) (omega (arith, same)))
        | inr a ↦ elim (aside p q x off.rule a.1) [
          | inl b ↦ inl (none_before m hi p v first x h b)
          | inr k ↦ absurd (off.none x.subject c k.0 k.1)
        ]
      ]
    ]
  ];
}
  where
    by : (a b c d e f : ℕ) → c ≡ a → (e < c) ⊎ ((e ≡ c) × (f < d)) → ((e < a) ⊎ ((e ≡ a) × (f < b))) ⊎ ((b ≤ f) × (f ≤ d))
    by a b c d e f s l = elim l [
      | inl k ↦ inl (inl (omega arith))
      | inr k ↦ elim (cases_lt f b) [ inl j ↦ inl (inr (omega (arith, k.0), j)) | inr j ↦ inr (j, omega (arith, k.1)) ]
    ]

    aside : (p q x : Pair) → q.rule ≡ p.rule → IsPairBefore x q → IsPairBefore x p ⊎ ((p.subject ≤ x.subject) × (x.subject ≤ q.subject))
    aside p q x s l = by p.rule p.subject q.rule q.subject x.rule x.subject s l

pub past_all : (handles : List ℕ) (m : BTreeMap Pair (Vec Entry)) (lo hi : Bound Pair) → IsPast handles m lo hi
    → ((q : Pair) → IsFrom hi q → get pair_cmp m q ≡ None) → HasNoneFrom handles m lo
past_all handles m lo hi w none q f c = elim (w.none q f c) [ inl n ↦ n | inr h ↦ none q h ]

pub past_next : (handles : List ℕ) (m : BTreeMap Pair (Vec Entry)) (lo hi : Bound Pair) (p : Pair) (v : Vec Entry) → IsPast handles m lo hi
    → IsNextRun handles m hi p v → IsNextRun handles m lo p v
past_next handles m lo hi p v w next = record {
  on = w.on p next.on;
  chosen = next.chosen;
  run = next.run;
  none = λ q f l c. elim (w.none q f c) [ inl n ↦ n | inr h ↦ next.none q h l c ];
}

-- ---- less is left of the map
abbrev pub left_from : Bound Pair → List Run → ℕ
left_from lo rs = length (entries_between pair_cmp lo Unbounded rs)

module _ (t u : Pair → Bool) (lets : (q : Pair) → u q ≡ true → t q ≡ true) where
  one_more : (a b : Bool) (m n : ℕ) (xs ys : List Run) (x : Run) → (b ≡ true → a ≡ true) → length xs ≤ length ys
      → length (cond b (x ∷ xs) xs) ≤ length (cond a (x ∷ ys) ys)
  one_more true true m n xs ys x h l = omega arith
  one_more true false m n xs ys x h l = omega arith
  one_more false true m n xs ys x h l = let w : false ≡ true = h refl in absurd cc
  one_more false false m n xs ys x h l = l

  not_more : (rs : List Run) → length (filter (λ (e : Run). u e.0) rs) ≤ length (filter (λ (e : Run). t e.0) rs)
  not_more [] = omega arith
  not_more (x ∷ rs) = one_more (t x.0) (u x.0) 0 0 (filter (λ (e : Run). u e.0) rs) (filter (λ (e : Run). t e.0) rs) x (lets x.0) (not_more rs)

  still_fewer : (a b : Bool) (xs ys : List Run) (x : Run) → (b ≡ true → a ≡ true) → length xs < length ys
      → length (cond b (x ∷ xs) xs) < length (cond a (x ∷ ys) ys)
  still_fewer true true xs ys x h l = omega arith
  still_fewer true false xs ys x h l = omega arith
  still_fewer false true xs ys x h l = let w : false ≡ true = h refl in absurd cc
  still_fewer false false xs ys x h l = l

  pub fewer : (rs : List Run) (p : Pair) (v : Vec Entry) → lookup (is_at (pair_cmp p)) rs ≡ Some v → t p ≡ true → u p ≡ false
      → length (filter (λ (e : Run). u e.0) rs) < length (filter (λ (e : Run). t e.0) rs)
  fewer [] p v e k n = let w : None ≡ Some v = e in absurd cc
  fewer (x ∷ rs) p v e k n = elim (this_pair p x.0) [
    | inl s ↦
        let f : t x.0 ≡ true = subst (λ (z : Pair). t z ≡ true) s.1 k in
        let g : u x.0 ≡ false = subst (λ (z : Pair). u z ≡ false) s.1 n in
        let h = not_more rs in
        rw (f, g) (omega arith)
    | inr s ↦ still_fewer (t x.0) (u x.0) (filter (λ (e : Run). u e.0) rs) (filter (λ (e : Run). t e.0) rs) x (lets x.0)
        (fewer rs p v (rw s.0 at e) k n)
  ]

pub less_left : (m : BTreeMap Pair (Vec Entry)) (lo : Bound Pair) (p q : Pair) (v : Vec Entry) → IsFrom lo p → get pair_cmp m p ≡ Some v
    → IsUpTo p q → left_from (Excluded q) m.entries < left_from lo m.entries
less_left m lo p q v f e u = fewer (range_contains pair_cmp lo Unbounded) (range_contains pair_cmp (Excluded q) Unbounded)
    (λ x t.
    let b = IsInRange-from_range_contains pairs_total (Excluded q) Unbounded x t in
    range_contains-from_IsInRange pairs_total lo Unbounded x (from_on lo p x f (behind_up_to p q x u (less_before q x b.0)), tt))
    m.entries p v e (range_contains-from_IsInRange pairs_total lo Unbounded p (f, tt)) (out (range_contains pair_cmp (Excluded q) Unbounded p) refl)
  where
    out : (b : Bool) → b ≡ range_contains pair_cmp (Excluded q) Unbounded p → range_contains pair_cmp (Excluded q) Unbounded p ≡ false
    out false s = sym s
    out true s =
        let b = IsInRange-from_range_contains pairs_total (Excluded q) Unbounded p (sym s) in
        absurd (never p (behind_up_to p q p u (less_before q p b.0)))

-- ---- the least handle from one on
pub handles_parted : (hs : List ℕ) (from : ℕ) → IsStrictlyIncreasing hs → IsPartitionedBy (λ a. nat_lt a from) hs
handles_parted hs from up i j d upto short t = elim (cases_lt i j) [
  | inl l ↦ let m = AllPairs-from_increasing hs up i j d l short in earlier (get_or hs i d) (get_or hs j d) from m t
  | inr l ↦ let same : i ≡ j = omega arith in rw same t
]
  where
    earlier : (a b from : ℕ) → a < b → nat_lt b from ≡ true → nat_lt a from ≡ true
    earlier a b from l t = grind (arith, nat_tests)

abbrev ArePartedAt : ℕ → List ℕ → ℕ → Type 0
ArePartedAt from hs i = IsPartitionPoint (λ a. nat_lt a from ≡ true) (λ a. nat_lt a from ≡ false) hs i

pub least_there : (hs : List ℕ) (from i a : ℕ) → IsStrictlyIncreasing hs → ArePartedAt from hs i → i < length hs → a ≡ get_or hs i a
    → IsLeastFrom hs from a
least_there hs from i a up p l is = record {
  there = (i, l, sym is);
  beyond = subst (λ b. from ≤ b) (sym is) (grind (arith, nat_tests, p.1 i a (omega arith) l));
  least = λ b c far. elim (cases_lt c.0 i) [
    | inl early ↦ let m : b < from = subst (λ n. n < from) c.2 (grind (arith, nat_tests, p.0 c.0 b (omega arith) early)) in absurd (omega arith)
    | inr late ↦ elim (cases_lt i c.0) [
      | inl further ↦
          let m = AllPairs-from_increasing hs up i c.0 a further c.1 in
          let n : get_or hs c.0 a ≡ b = sym (get_or_default hs c.0 b a c.1) ∙ c.2 in
          omega (arith, m, n, is)
      | inr same ↦
          let k : c.0 ≡ i = omega arith in
          let n : get_or hs i b ≡ b = subst (λ j. get_or hs j b ≡ b) k c.2 in
          let o : get_or hs i a ≡ b = sym (get_or_default hs i b a l) ∙ n in
          omega (arith, o, is)
    ]
  ];
}

pub none_from : (hs : List ℕ) (from i : ℕ) → ArePartedAt from hs i → length hs ≤ i → (a : ℕ) → Contains hs a → a < from
none_from hs from i p l a c = subst (λ n. n < from) c.2
    (grind (arith, nat_tests, p.0 c.0 a (omega arith) (omega (arith, c.1, l))))

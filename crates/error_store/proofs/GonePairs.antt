-- The pairs of the runs of some subjects, noted one after another.
use Rattle.std.proofs.Common.{◌≡◌, ◌⊎◌, inl, inr, ℕ, List, [], ◌∷◌, ◌++◌, length, Contains, arith, refl, subst, IsSome}
use Rattle.std.specs.BTreeMap.{get}
use Rattle.std.specs.Global.{Vec}
use Rattle.std.specs.declared.ops.Bound.{Bound}
use Rattle.std.specs.declared.ops.Bound.TheVariants.{Excluded}
use Rattle.std.proofs.lemmas.List.{nil_from_length}
use Rattle.std.proofs.lemmas.List.Elements.{Contains-append_left, Contains-push, Contains-push_cases}
use Rattle.topology_terms.specs.Entry.{Entry}
use Rattle.error_store.specs.Pairs.{pair_cmp}
use Rattle.error_store.specs.Runs.{HasNoneFrom, IsNextRun, ArePairsOf}
use Rattle.error_store.specs.declared.pair.Pair.{Pair}
use Rattle.error_store.proofs.Exchange.{Runs, none_some, some_of}
use Rattle.error_store.proofs.Pairs.{of_pairs}
use Rattle.error_store.proofs.Walking.{IsFrom}

-- ps are the pairs of these subjects that have a run and stand before lo
pub record ArePairsBefore (handles : List ℕ) (m : Runs) (lo : Bound Pair) (ps : List Pair) : Type 0 where
  pub there : (p : Pair) → Contains ps p → Contains handles p.subject × IsSome (get pair_cmp m p)
  pub all : (p : Pair) → Contains handles p.subject → IsSome (get pair_cmp m p) → Contains ps p ⊎ IsFrom lo p

pub pairs_more : (handles : List ℕ) (m : Runs) (lo : Bound Pair) (ps : List Pair) (p : Pair) (v : Vec Entry) → ArePairsBefore handles m lo ps
    → IsNextRun handles m lo p v → ArePairsBefore handles m (Excluded p) (ps ++ p ∷ [])
pairs_more handles m lo ps p v w next = record {
  there = λ q c. elim (Contains-push_cases ps p q c) [
    | inl k ↦ w.there q k
    | inr e ↦ subst (λ (x : Pair). Contains handles x.subject × IsSome (get pair_cmp m x)) e (next.chosen, some_of (get pair_cmp m p) v next.run)
  ];
  all = λ q c s. elim (w.all q c s) [
    | inl k ↦ inl (Contains-append_left ps (p ∷ []) q k)
    | inr f ↦ elim (of_pairs p q) [
      | inl a ↦ inr a.0
      | inr d ↦ elim d [
        | inl a ↦ inl (subst (Contains (ps ++ p ∷ [])) a.1 (Contains-push ps p))
        | inr a ↦ absurd (none_some (get pair_cmp m q) (next.none q f a.1 c) s)
      ]
    ]
  ];
}

pub pairs_all : (handles : List ℕ) (m : Runs) (lo : Bound Pair) (ps : List Pair) → ArePairsBefore handles m lo ps → HasNoneFrom handles m lo
    → ArePairsOf handles m ps
pairs_all handles m lo ps w none p = (
  w.there p,
  λ h. elim (w.all p h.0 h.1) [ inl k ↦ k | inr f ↦ absurd (none_some (get pair_cmp m p) (none p f h.0) h.1) ],
)

-- there are none of no subjects, nor of no runs
pub no_pairs_of_none : (handles : List ℕ) (m : Runs) → length handles ≡ 0 → ArePairsOf handles m []
no_pairs_of_none handles m e p = (λ c. absurd (omega (arith, c.1)), λ h. let l = h.0.1 in absurd (omega (arith, e, l)))

pub no_pairs_of_no_run : (handles : List ℕ) (m : Runs) → length m.entries ≡ 0 → ArePairsOf handles m []
no_pairs_of_no_run handles m e p = (
  λ c. absurd (omega (arith, c.1)),
  λ h. absurd (none_some (get pair_cmp m p) (rw (nil_from_length m.entries e) refl) h.1),
)

-- A list of errors that is cut into runs, step by step.
use Rattle.std.proofs.Common.{◌≡◌, ◌≢◌, ◌⊎◌, inl, inr, ℕ, ◌<◌, arith, refl, sym, ◌∙◌, ap, subst, List, [], ◌∷◌, ◌++◌, append_assoc}
use Rattle.std.specs.BTreeMap.{BTreeMap, IsOrdered, insert_entry}
use Rattle.std.specs.Global.{Vec}
use Rattle.std.specs.Map.{values_of}
use Rattle.std.specs.declared.cmp.Ordering.TheVariants.{Less}
use Rattle.plane_terms.specs.Lists.{Every}
use Rattle.plane_terms.proofs.ListLemmas.{every_append, every_map, every_right}
use Rattle.topology_terms.specs.Entry.{Entry, by_key, IsKeyBelow, IsAscending}
use Rattle.sound_laws.proofs.Keyed.{ascending_left, ascending_right}
use Rattle.sound_laws.proofs.Lists.{keys}
use Rattle.error_store.specs.Pairs.{pair_cmp, IsPairBefore, entries_in, all_entries, IsOf, AreRuns}
use Rattle.error_store.specs.Cutting.{pair_of, AreBehind, BeginsPast, AreFilled}
use Rattle.error_store.specs.declared.pair.Pair.{Pair}
use Rattle.error_store.proofs.Joined.{insert_above, joined_more, keys_above}
use Rattle.error_store.proofs.Pairs.{Run}
use Rattle.error_store.proofs.Walking.{before_less}

-- ---- one run
pub record IsTaking (first : Entry) (old run rest : List Entry) : Type 0 where
  pub list : run ++ rest ≡ first ∷ old
  pub own : Every (IsOf first.rule first.subject) run
  pub filled : run ≢ []
  pub above : Every (IsKeyBelow first) rest

-- the key is above, and the pair another: the pair is behind
behind_other : (e f : Entry) → IsKeyBelow e f → ¬ (pair_of f ≡ pair_of e) → IsPairBefore (pair_of e) (pair_of f)
behind_other e f l n = elim (parts e.rule e.subject e.other f.rule f.subject f.other l) [
  | inl s ↦ s
  | inr s ↦ absurd (n (rw (s.0, s.1) refl))
]
  where
    parts : (r a m t c n : ℕ) → (r < t) ⊎ ((r ≡ t) × ((a < c) ⊎ ((a ≡ c) × (m < n)))) → ((r < t) ⊎ ((r ≡ t) × (a < c))) ⊎ ((r ≡ t) × (a ≡ c))
    parts r a m t c n l = grind arith

-- behind a pair that is behind
behind_later : (p : Pair) (e f : Entry) → IsPairBefore p (pair_of e) → IsKeyBelow e f → IsPairBefore p (pair_of f)
behind_later p e f l k = by p.rule p.subject e.rule e.subject e.other f.rule f.subject f.other l k
  where
    by : (q b r a m t c n : ℕ) → (q < r) ⊎ ((q ≡ r) × (b < a)) → (r < t) ⊎ ((r ≡ t) × ((a < c) ⊎ ((a ≡ c) × (m < n)))) → (q < t) ⊎ ((q ≡ t) × (b < c))
    by q b r a m t c n l k = grind arith

all_behind : (p : Pair) (f : Entry) (es : List Entry) → IsPairBefore p (pair_of f) → Every (IsKeyBelow f) es → AreBehind p es
all_behind p f es l u = every_map (IsKeyBelow f) (λ (e : Entry). pair_cmp p (pair_of e) ≡ Less)
    (λ e k. before_less p (pair_of e) (behind_later p f e l k)) es u

pub taking_ends : (first : Entry) (old run rest : List Entry) → IsAscending (first ∷ old) → IsTaking first old run rest
    → BeginsPast (pair_of first) rest → AreBehind (pair_of first) rest
taking_ends first old run [] u t n = tt
taking_ends first old run (f ∷ rest) u t n =
    let l = behind_other first f t.above.0 n in
    let v : IsAscending (f ∷ rest) = ascending_right by_key keys run (f ∷ rest) (subst IsAscending (sym t.list) u) in
    (before_less (pair_of first) (pair_of f) l, all_behind (pair_of first) f rest l v.0)

-- ---- all runs
pub record IsCutting (all : List Entry) (m : BTreeMap Pair (Vec Entry)) (rest : List Entry) : Type 0 where
  pub list : all_entries m ++ rest ≡ all
  pub ordered : IsOrdered pair_cmp m
  pub runs : AreRuns m
  pub filled : AreFilled m
  pub behind : Every (λ (q : Run). AreBehind q.0 rest) m.entries

pub rest_ascends : (all : List Entry) (m : BTreeMap Pair (Vec Entry)) (rest mid : List Entry) (first : Entry) → IsAscending all
    → IsCutting all m rest → rest ≡ first ∷ mid → IsAscending (first ∷ mid)
rest_ascends all m rest mid first u c is =
    subst IsAscending is (ascending_right by_key keys (all_entries m) rest (subst IsAscending (sym c.list) u))

-- a run that is cut off stands behind all others
pub cutting_goes_on : (all : List Entry) (m n : BTreeMap Pair (Vec Entry)) (rest mid rest' : List Entry) (first : Entry) (p : Pair) (v : Vec Entry)
    → IsAscending all → IsCutting all m rest → rest ≡ first ∷ mid → v.items ++ rest' ≡ first ∷ mid
    → Every (IsOf first.rule first.subject) v.items → v.items ≢ [] → AreBehind (pair_of first) rest'
    → p ≡ pair_of first → n.entries ≡ insert_entry pair_cmp m.entries p v → IsOrdered pair_cmp n → IsCutting all n rest'
cutting_goes_on all m n rest mid rest' first q v u c is parts own filled behind e put s =
    let es = m.entries in
    let p = pair_of first in
    let last : n.entries ≡ es ++ (p, v) ∷ [] =
    subst (λ (x : Pair). n.entries ≡ insert_entry pair_cmp es x v) e put ∙ insert_above es p v (keys_above es p (every_map (λ (q : Run). AreBehind q.0 rest) (λ (q : Run). pair_cmp q.0 p ≡ Less)
    (λ q b. (subst (AreBehind q.0) is b).0) es c.behind)) in
    let whole : v.items ++ rest' ≡ rest = parts ∙ sym is in
    let rises : IsAscending rest = ascending_right by_key keys (all_entries m) rest (subst IsAscending (sym c.list) u) in
    record {
      list = ap (λ (rs : List Run). entries_in (values_of rs) ++ rest') last ∙ (ap (λ xs. xs ++ rest') (joined_more es p v)
          ∙ (append_assoc (all_entries m) v.items rest' ∙ (ap (λ xs. all_entries m ++ xs) whole ∙ c.list)));
      ordered = s;
      runs = rw last (every_append _ es ((p, v) ∷ []) c.runs
          ((ascending_left by_key keys v.items rest' (subst IsAscending (sym whole) rises), own), tt));
      filled = rw last (every_append _ es ((p, v) ∷ []) c.filled (filled, tt));
      behind = rw last (every_append (λ (q : Run). AreBehind q.0 rest') es ((p, v) ∷ [])
          (every_map (λ (q : Run). AreBehind q.0 rest) (λ (q : Run). AreBehind q.0 rest')
          (λ q b. every_right (λ (e : Entry). pair_cmp q.0 (pair_of e) ≡ Less) v.items rest' (subst (AreBehind q.0) (sym whole) b)) es c.behind)
          (behind, tt));
    }

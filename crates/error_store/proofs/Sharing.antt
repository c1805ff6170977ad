-- Whether an error of another rule has a frame, by the runs of its subject.
use Rattle.std.proofs.Common.{◌≡◌, ◌≢◌, inl, inr, ℕ, Bool, true, cond, List, [], ◌∷◌, ◌++◌, Some, arith, sym, ◌∙◌, ap, subst}
use Rattle.std.specs.BTreeMap.{BTreeMap, IsOrdered, get}
use Rattle.std.specs.Global.{Vec}
use Rattle.std.specs.List.{filter}
use Rattle.std.specs.declared.ops.Bound.{Bound}
use Rattle.std.proofs.lemmas.Bool.{cases_Bool}
use Rattle.std.proofs.lemmas.List.Elements.{filter-append}
use Rattle.plane_terms.specs.Lists.{Every, SomeOf}
use Rattle.plane_terms.proofs.ListLemmas.{SomeOf-either}
use Rattle.topology_terms.specs.Entry.{Entry, by_key, entry_at}
use Rattle.sound_laws.proofs.Keyed.{some_found, found_some}
use Rattle.sound_laws.proofs.Lists.{keys, every_found}
use Rattle.grid_index.specs.declared.placed.Placed.{Placed}
use Rattle.error_store.specs.Frames.{IsFrame, IsShared}
use Rattle.error_store.specs.Pairs.{pair_cmp, all_entries, IsOf, AreRuns}
use Rattle.error_store.specs.Runs.{is_of, HasNoneFrom}
use Rattle.error_store.specs.declared.pair.Pair.{Pair}
use Rattle.error_store.proofs.Collected.{IsGathered, gathered_all}
use Rattle.error_store.proofs.Dropping.{is_other, no_other, all_other}
use Rattle.error_store.proofs.Leaving.{among}
use Rattle.error_store.proofs.Noted.{filter_whole, filter_nothing, all_under, none_under}
use Rattle.error_store.proofs.Pairs.{run_at, at_run}
use Rattle.error_store.proofs.Staying.{IsAt, some_passed}

abbrev IsBoth : ℕ → Placed → Entry → Type 0
IsBoth n q e = IsAt q e × (is_other n e ≡ true)

passed_some : (P : Entry → Type 0) (p : Entry → Bool) (es : List Entry) → SomeOf P (filter p es)
    → SomeOf (λ (e : Entry). P e × (p e ≡ true)) es
passed_some P p [] s = absurd s
passed_some P p (x ∷ es) s = elim (cases_Bool (p x)) [
  | inl t ↦ elim (subst (λ b. SomeOf P (cond b (x ∷ filter p es) (filter p es))) t s) [
    | inl h ↦ inl (h, t)
    | inr k ↦ inr (passed_some P p es k)
  ]
  | inr t ↦ inr (passed_some P p es (subst (λ b. SomeOf P (cond b (x ∷ filter p es) (filter p es))) t s))
]

some_both : (P Q : Entry → Type 0) → ((e : Entry) → P e → Q e) → (es : List Entry) → SomeOf P es → SomeOf (λ (e : Entry). P e × Q e) es
some_both P Q h [] s = absurd s
some_both P Q h (x ∷ es) s = elim s [ inl p ↦ inl (p, h x p) | inr k ↦ inr (some_both P Q h es k) ]

-- ---- in one run
pub none_of_rule : (n : ℕ) (p : Pair) (es : List Entry) (q : Placed) → p.rule ≡ n → Every (IsOf p.rule p.subject) es → ¬ (IsShared n es q)
none_of_rule n p es q r o s =
    subst (λ fs. IsFrame fs q) (filter_nothing (is_other n) es (no_other n es (all_under n p es r o))) s

pub all_of_other : (n : ℕ) (p : Pair) (es : List Entry) → p.rule ≢ n → Every (IsOf p.rule p.subject) es → filter (is_other n) es ≡ es
all_of_other n p es d o = filter_whole (is_other n) es (all_other n es (none_under n p es d o))

-- ---- one run more
pub unshared_more : (n : ℕ) (es fs : List Entry) (q : Placed) → ¬ (IsShared n es q) → ¬ (IsShared n fs q) → ¬ (IsShared n (es ++ fs) q)
unshared_more n es fs q a b s =
    elim (SomeOf-either (IsAt q) (filter (is_other n) es) (filter (is_other n) fs) (subst (λ xs. IsFrame xs q) (filter-append (is_other n) es fs) s)) [
      | inl k ↦ a k
      | inr k ↦ b k
    ]

-- ---- what a run has all have
pub shared_there : (m : BTreeMap Pair (Vec Entry)) (p : Pair) (v : Vec Entry) (n : ℕ) (q : Placed) → IsOrdered pair_cmp m → AreRuns m
    → get pair_cmp m p ≡ Some v → IsShared n v.items q → IsShared n (all_entries m) q
unfolding entry_at
shared_there m p v n q ordered runs there s =
    let run = run_at m p v runs there in
    let f = some_found by_key keys (IsBoth n q) v.items run.0 (passed_some (IsAt q) (is_other n) v.items s) in
    let e = f.0 in
    let own = every_found (IsOf p.rule p.subject) v.items e.rule e.subject e.other e run.1 f.1 in
    let here : entry_at v.items p.rule p.subject e.other ≡ Some e =
    subst (λ r. entry_at v.items r p.subject e.other ≡ Some e) own.rule (subst (λ a. entry_at v.items e.rule a e.other ≡ Some e) own.subject f.1) in
    some_passed (IsAt q) (is_other n) (all_entries m) (found_some by_key keys (IsBoth n q) (all_entries m) (p.rule, p.subject, e.other) e
    (sym (at_run m ordered runs p (Some v) there e.other) ∙ here) f.2)

-- ---- what no run of the subject has none has
pub unshared_all : (m : BTreeMap Pair (Vec Entry)) (lo : Bound Pair) (es : List Entry) (n : ℕ) (q : Placed) → IsOrdered pair_cmp m → AreRuns m
    → IsGathered (q.handle ∷ []) m lo es → HasNoneFrom (q.handle ∷ []) m lo → ¬ (IsShared n es q) → ¬ (IsShared n (all_entries m) q)
unshared_all m lo es n q ordered runs g none u s =
    let handles = q.handle ∷ [] in
    let all = all_entries m in
    let both = some_both (IsBoth n q) (λ (e : Entry). is_of handles e ≡ true)
    (λ e b. among handles e.subject (0, omega arith, ap (λ (p : Placed). p.handle) (sym b.0))) all (passed_some (IsAt q) (is_other n) all s) in
    let chosen = some_passed (IsBoth n q) (is_of handles) all both in
    u (subst (λ fs. IsShared n fs q) (sym (gathered_all handles m lo es ordered runs g none))
    (some_passed (IsAt q) (is_other n) (filter (is_of handles) all) chosen))

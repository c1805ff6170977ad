-- The runs of some subjects, gathered one after another: together they are the errors of these subjects.
use Rattle.std.proofs.Common.{◌≡◌, ◌⊎◌, inl, inr, ℕ, ◌<◌, List, [], ◌∷◌, ◌++◌, length, Contains, arith, refl, ap, subst, sym, ◌∙◌, Option, Some, None}
use Rattle.std.specs.BTreeMap.{BTreeMap, IsOrdered, get}
use Rattle.std.specs.Global.{Vec}
use Rattle.std.specs.List.{filter, flat_map}
use Rattle.std.specs.declared.ops.Bound.{Bound}
use Rattle.std.specs.declared.ops.Bound.TheVariants.{Excluded}
use denote.Ref.{Bor}
use Rattle.std.proofs.lemmas.Bool.{cases_Bool}
use Rattle.std.proofs.lemmas.List.{flat_map_more, nil_from_length}
use Rattle.plane_terms.specs.Lists.{Every}
use Rattle.plane_terms.proofs.ListLemmas.{every_append, every_map}
use Rattle.topology_terms.specs.Entry.{Entry, by_key, key_of, has_key, entry_at, IsBefore, IsAscending}
use Rattle.sound_laws.proofs.Keyed.{AllAfter, ascending_append, ascending_filter, item_filter, passing}
use Rattle.sound_laws.proofs.Lists.{keys, Lacks, none_at, has_parts, entry_key, past_front, before_back, same_entries}
use Rattle.error_store.specs.Pairs.{pair, pair_cmp, IsPairBefore, all_entries, IsOf, AreRuns}
use Rattle.error_store.specs.Runs.{is_of, HasNoneFrom, IsNextRun}
use Rattle.error_store.specs.declared.pair.Pair.{Pair}
use Rattle.error_store.proofs.Pairs.{found_in, of_pairs, less_before, runs_ascend, at_pair, run_at, other_lacks}
use Rattle.error_store.proofs.Walking.{IsFrom, from_on, never}
use Rattle.error_store.proofs.Leaving.{within, among, selected_or_not}

-- ---- what is gathered before lo
-- the error is of a pair before p
abbrev pub IsEarlier : Pair → Entry → Type 0
IsEarlier p e = IsPairBefore (pair e.rule e.subject) p

abbrev pub chosen_of : List ℕ → BTreeMap Pair (Vec Entry) → List Entry
chosen_of handles m = filter (is_of handles) (all_entries m)

-- es are the errors of these subjects whose pairs stand before lo
pub record IsGathered (handles : List ℕ) (m : BTreeMap Pair (Vec Entry)) (lo : Bound Pair) (es : List Entry) : Type 0 where
  pub ascending : IsAscending es
  pub before : (p : Pair) → IsFrom lo p → Every (IsEarlier p) es
  pub same : (r a b : ℕ) → (entry_at es r a b ≡ entry_at (chosen_of handles m) r a b) ⊎ IsFrom lo (pair r a)

earlier_lacks : (r a b : ℕ) (e : Entry) → IsEarlier (pair r a) e → Lacks r a b e
earlier_lacks r a b e l = elim (cases_Bool (has_key e r a b)) [
  | inl t ↦
      let k = has_parts e r a b t in
      absurd (never (pair r a) (subst (λ (n : ℕ). IsPairBefore (pair n a) (pair r a)) k.0 (subst (λ (n : ℕ). IsPairBefore (pair e.rule n) (pair r a)) k.1 l)))
  | inr f ↦ f
]

none_earlier : (es : List Entry) (r a b : ℕ) → Every (IsEarlier (pair r a)) es → entry_at es r a b ≡ None
none_earlier es r a b u = none_at es r a b (every_map (IsEarlier (pair r a)) (Lacks r a b) (earlier_lacks r a b) es u)

chosen_at : (handles : List ℕ) (m : BTreeMap Pair (Vec Entry)) → IsOrdered pair_cmp m → AreRuns m → (r a b : ℕ)
    → entry_at (chosen_of handles m) r a b ≡ passing (is_of handles) (entry_at (all_entries m) r a b)
unfolding entry_at
chosen_at handles m s h r a b = item_filter by_key keys (is_of handles) (all_entries m) (r, a, b) (runs_ascend m s h)

passing_out : (handles : List ℕ) (o : Option Entry) → ((e : Entry) → o ≡ Some e → ¬ (Contains handles e.subject)) → passing (is_of handles) o ≡ None
passing_out handles None n = refl
passing_out handles (Some e) n = elim (cases_Bool (is_of handles e)) [
  | inl t ↦ absurd (n e refl (within handles e.subject t))
  | inr t ↦ rw t refl
]

passing_in : (handles : List ℕ) (o : Option Entry) → ((e : Entry) → o ≡ Some e → Contains handles e.subject) → passing (is_of handles) o ≡ o
passing_in handles None c = refl
passing_in handles (Some e) c = rw (among handles e.subject (c e refl)) refl

-- a pair that has no run, or whose subject is none of these
none_chosen : (handles : List ℕ) (m : BTreeMap Pair (Vec Entry)) → IsOrdered pair_cmp m → AreRuns m → (r a b : ℕ)
    → (Contains handles a → get pair_cmp m (pair r a) ≡ None) → entry_at (chosen_of handles m) r a b ≡ None
none_chosen handles m s h r a b none = elim (selected_or_not handles a) [
  | inl c ↦ chosen_at handles m s h r a b ∙ ap (passing (is_of handles)) (at_pair m s h r a b ∙ ap (λ o. found_in o r a b) (none c))
  | inr n ↦ chosen_at handles m s h r a b ∙ passing_out handles (entry_at (all_entries m) r a b)
      (λ e k c. n (subst (Contains handles) (entry_key (all_entries m) r a b e k).1 c))
]

all_chosen : (handles : List ℕ) (m : BTreeMap Pair (Vec Entry)) → IsOrdered pair_cmp m → AreRuns m → (r a b : ℕ) → Contains handles a
    → entry_at (chosen_of handles m) r a b ≡ entry_at (all_entries m) r a b
all_chosen handles m s h r a b c = chosen_at handles m s h r a b ∙ passing_in handles (entry_at (all_entries m) r a b)
    (λ e k. subst (Contains handles) (sym (entry_key (all_entries m) r a b e k).1) c)

-- ---- one run more
earlier_before : (p : Pair) (e f : Entry) → IsEarlier p e → IsOf p.rule p.subject f → IsBefore (key_of e) (key_of f)
earlier_before p e f l o = by p.rule p.subject e.rule e.subject f.rule f.subject e.other f.other l o.rule o.subject
  where
    by : (r a s b t c m n : ℕ) → (s < r) ⊎ ((s ≡ r) × (b < a)) → t ≡ r → c ≡ a → IsBefore (s, b, m) (t, c, n)
    by r a s b t c m n l e f = grind arith

own_earlier : (p q : Pair) → IsPairBefore p q → (e : Entry) → IsOf p.rule p.subject e → IsEarlier q e
own_earlier p q l e o = rw (o.rule, o.subject) l

pub gathered_more : (handles : List ℕ) (m : BTreeMap Pair (Vec Entry)) (lo : Bound Pair) (es : List Entry) (p : Pair) (v : Vec Entry)
    → IsOrdered pair_cmp m → AreRuns m → IsGathered handles m lo es → IsNextRun handles m lo p v
    → IsGathered handles m (Excluded p) (es ++ v.items)
gathered_more handles m lo es p v s h g n =
    let run = run_at m p v h n.run in
    let early = g.before p n.on in
    record {
      ascending = ascending_append by_key keys es v.items g.ascending run.0
          (every_map (IsEarlier p) (λ (e : Entry). AllAfter by_key keys (key_of e) v.items)
          (λ e l. every_map (IsOf p.rule p.subject) (λ (f : Entry). IsBefore (key_of e) (key_of f)) (λ f o. earlier_before p e f l o) v.items run.1)
          es early);
      before = λ q f.
          let l = less_before p q f in
          every_append (IsEarlier q) es v.items (g.before q (from_on lo p q n.on l))
          (every_map (IsOf p.rule p.subject) (IsEarlier q) (own_earlier p q l) v.items run.1);
      same = λ r a b. elim (of_pairs p (pair r a)) [
        | inl l ↦ inr l.0
        | inr d ↦ elim d [
          | inl k ↦ inl (here r a b run early k.1)
          | inr k ↦
              let lacks = every_map (IsOf p.rule p.subject) (Lacks r a b) (other_lacks p r a b (λ e. never p (subst (λ (x : Pair). IsPairBefore x p) e k.1))) v.items run.1 in
              let past = before_back es v.items r a b lacks in
              elim (g.same r a b) [
                | inl e ↦ inl (past ∙ e)
                | inr f ↦ inl (past ∙ (none_earlier es r a b (g.before (pair r a) f)
                    ∙ sym (none_chosen handles m s h r a b (λ c. n.none (pair r a) f k.1 c))))
              ]
        ]
      ];
    }
  where
    here : (r a b : ℕ) → IsAscending v.items × Every (IsOf p.rule p.subject) v.items → Every (IsEarlier p) es → p ≡ pair r a
        → entry_at (es ++ v.items) r a b ≡ entry_at (chosen_of handles m) r a b
    here r a b run early e =
        let lacks = every_map (IsEarlier (pair r a)) (Lacks r a b) (earlier_lacks r a b) es (subst (λ (x : Pair). Every (IsEarlier x) es) e early) in
        let there : get pair_cmp m (pair r a) ≡ Some v = subst (λ (x : Pair). get pair_cmp m x ≡ Some v) e n.run in
        let chosen : Contains handles a = subst (λ (x : Pair). Contains handles x.subject) e n.chosen in
        past_front es v.items r a b lacks
        ∙ sym (all_chosen handles m s h r a b chosen ∙ (at_pair m s h r a b ∙ ap (λ o. found_in o r a b) there))

pub gathered_all : (handles : List ℕ) (m : BTreeMap Pair (Vec Entry)) (lo : Bound Pair) (es : List Entry)
    → IsOrdered pair_cmp m → AreRuns m → IsGathered handles m lo es → HasNoneFrom handles m lo → es ≡ chosen_of handles m
unfolding entry_at
gathered_all handles m lo es s h g none = same_entries es (chosen_of handles m) g.ascending
    (ascending_filter by_key keys (is_of handles) (all_entries m) (runs_ascend m s h)) (λ r a b. elim (g.same r a b) [
      | inl e ↦ e
      | inr f ↦ none_earlier es r a b (g.before (pair r a) f) ∙ sym (none_chosen handles m s h r a b (λ c. none (pair r a) f c))
    ])

-- there is nothing to gather of no subjects, nor of no runs
pub none_of_none : (handles : List ℕ) (es : List Entry) → length handles ≡ 0 → [] ≡ filter (is_of handles) es
none_of_none handles es e = rw (nil_from_length handles e) (by es)
  where
    by : (es : List Entry) → [] ≡ filter (is_of []) es
    by [] = refl
    by (x ∷ es) = by es

pub none_of_no_run : (handles : List ℕ) (m : BTreeMap Pair (Vec Entry)) → length m.entries ≡ 0 → [] ≡ chosen_of handles m
none_of_no_run handles m e = rw (nil_from_length m.entries e) refl

-- what is pushed behind slices is behind what they hold
pub spread_more : (xs : List (Bor (List Entry))) (x : Bor (List Entry)) (es : List Entry) → x.now ≡ es
    → flat_map (λ r. r.now) (xs ++ x ∷ []) ≡ flat_map (λ r. r.now) xs ++ es
spread_more xs x es e = sym (flat_map_more (λ (r : Bor (List Entry)). r.now) [] xs x)
    ∙ ap (λ l. flat_map (λ (r : Bor (List Entry)). r.now) xs ++ l) e

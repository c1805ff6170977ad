-- A mark that is set in the run of a pair, and what it leaves of all errors.
use Rattle.std.proofs.Common.{◌≡◌, inl, inr, ℕ, ◌+◌, Bool, false, refl, sym, ◌∙◌, ap, subst, List, [], ◌∷◌, length, Option, Some, None, cond}
use Rattle.std.specs.BTreeMap.{BTreeMap, IsOrdered, get, is_at, WritesThrough}
use Rattle.std.specs.Option.{IsSome}
use Rattle.std.specs.Global.{Vec}
use Rattle.std.specs.Map.{values_of, lookup, set_value}
use Rattle.std.proofs.lemmas.Bool.{cases_Bool}
use Rattle.std.proofs.lemmas.List.{length-append}
use Rattle.topology_terms.specs.Changes.{SameButMark}
use Rattle.topology_terms.specs.Causes.{mark_cause}
use Rattle.topology_terms.specs.Entry.{Entry, by_key, entry_at, IsAscending}
use Rattle.sound_laws.proofs.Keyed.{each_found}
use Rattle.sound_laws.proofs.Lists.{keys, every_found, entry_key, same_entries}
use Rattle.error_store.specs.Marking.{IsMarkSet}
use Rattle.error_store.specs.Pairs.{pair, pair_cmp, entries_in, all_entries, IsOf, IsRunOf, AreRuns}
use Rattle.error_store.specs.declared.pair.Pair.{Pair}
use Rattle.error_store.proofs.Marking.{same_all}
use Rattle.error_store.proofs.Pairs.{Run, this_pair, run_at, runs_from_get, runs_ascend, at_run}

-- ---- one run
-- marks aside they are of the same pair
pub marked_own : (r a : ℕ) (old new : List Entry) → IsAscending new → ((k c d : ℕ) → SameButMark (entry_at old k c d) (entry_at new k c d))
    → IsRunOf (pair r a) old → IsRunOf (pair r a) new
unfolding entry_at
marked_own r a old new u same h = (
  u,
  each_found by_key keys (IsOf r a) new u (λ k n e.
      by k.0 k.1 k.2 n (entry_at old k.0 k.1 k.2) refl e (subst (λ o. SameButMark (entry_at old k.0 k.1 k.2) o) e (same k.0 k.1 k.2))),
)
  where
    by : (x c d : ℕ) (n : Entry) (o : Option Entry) → entry_at old x c d ≡ o → entry_at new x c d ≡ Some n → SameButMark (entry_at old x c d) (Some n)
        → IsOf r a n
    by x c d n None e k s = absurd (subst (λ z. SameButMark z (Some n)) e s)
    by x c d n (Some m) e k s =
        let own = every_found (IsOf r a) old x c d m h.1 e in
        let i = entry_key old x c d m e in
        let j = entry_key new x c d n k in
        record { rule = j.0 ∙ (sym i.0 ∙ own.rule); subject = j.1 ∙ (sym i.1 ∙ own.subject) }

-- ---- as long as before
pub length_set : (test : Pair → Bool) (rs : List Run) (v w : Vec Entry) → lookup test rs ≡ Some v → length w.items ≡ length v.items
    → length (entries_in (values_of (set_value test rs w))) ≡ length (entries_in (values_of rs))
length_set test [] v w e l = refl
length_set test (q ∷ rs) v w e l = elim (cases_Bool (test q.0)) [
  | inl t ↦
      let k : Some q.1 ≡ Some v = rw t at e in
      let same : q.1 ≡ v = cc in
      let long : length w.items ≡ length q.1.items = subst (λ (x : Vec Entry). length w.items ≡ length x.items) (sym same) l in
      rw t (length-append w.items (entries_in (values_of rs)) ∙ (ap (λ n. n + length (entries_in (values_of rs))) long
      ∙ sym (length-append q.1.items (entries_in (values_of rs)))))
  | inr t ↦
      let k : lookup test rs ≡ Some v = rw t at e in
      rw t (length-append q.1.items (entries_in (values_of (set_value test rs w)))
      ∙ (ap (λ n. length q.1.items + n) (length_set test rs v w k l) ∙ sym (length-append q.1.items (entries_in (values_of rs)))))
]

-- ---- all runs
-- of the map m the run v of the pair has become w, and all others stay
pub record IsRunSet (r a : ℕ) (m n : BTreeMap Pair (Vec Entry)) (v w : Vec Entry) : Type 0 where
  pub ordered : IsOrdered pair_cmp m
  pub ordered_new : IsOrdered pair_cmp n
  pub runs : AreRuns m
  pub there : get pair_cmp m (pair r a) ≡ Some v
  pub set : (q : Pair) → get pair_cmp n q ≡ cond (is_at (pair_cmp (pair r a)) q) (Some w) (get pair_cmp m q)
  pub run : IsRunOf (pair r a) w.items

module _ (r a : ℕ) (m n : BTreeMap Pair (Vec Entry)) (v w : Vec Entry) (s : IsRunSet r a m n v w) where
  at_pair_new : get pair_cmp n (pair r a) ≡ Some w
  at_pair_new = elim (this_pair (pair r a) (pair r a)) [
    | inl t ↦ s.set (pair r a) ∙ ap (λ b. cond b (Some w) (get pair_cmp m (pair r a))) t.0
    | inr t ↦ absurd (t.1 refl)
  ]

  at_other : (q : Pair) → is_at (pair_cmp (pair r a)) q ≡ false → get pair_cmp n q ≡ get pair_cmp m q
  at_other q t = s.set q ∙ ap (λ b. cond b (Some w) (get pair_cmp m q)) t

  pub set_runs : AreRuns n
  set_runs = runs_from_get n s.ordered_new (λ q x g. elim (this_pair (pair r a) q) [
    | inl t ↦
        let two : Some w ≡ Some x = sym (subst (λ (z : Pair). get pair_cmp n z ≡ Some w) t.1 at_pair_new) ∙ g in
        let same : w ≡ x = cc in
        subst (λ (y : Vec Entry). IsRunOf q y.items) same (subst (λ (z : Pair). IsRunOf z w.items) t.1 s.run)
    | inr t ↦ run_at m q x s.runs (sym (at_other q t.0) ∙ g)
  ])

  own_new : (b : ℕ) → entry_at w.items r a b ≡ entry_at (all_entries n) r a b
  own_new b = at_run n s.ordered_new set_runs (pair r a) (Some w) at_pair_new b

  pub own_old : (b : ℕ) → entry_at v.items r a b ≡ entry_at (all_entries m) r a b
  own_old b = at_run m s.ordered s.runs (pair r a) (Some v) s.there b

  others_same : (q : Pair) (b : ℕ) → is_at (pair_cmp (pair r a)) q ≡ false → entry_at (all_entries n) q.rule q.subject b ≡ entry_at (all_entries m) q.rule q.subject b
  others_same q b t = sym (at_run n s.ordered_new set_runs q (get pair_cmp m q) (at_other q t) b)
      ∙ at_run m s.ordered s.runs q (get pair_cmp m q) refl b

  pub all_alike : ((x c d : ℕ) → SameButMark (entry_at v.items x c d) (entry_at w.items x c d))
      → (x c d : ℕ) → SameButMark (entry_at (all_entries m) x c d) (entry_at (all_entries n) x c d)
  all_alike h x c d = elim (this_pair (pair r a) (pair x c)) [
    | inl t ↦ subst (λ (q : Pair). SameButMark (entry_at (all_entries m) q.rule q.subject d) (entry_at (all_entries n) q.rule q.subject d)) t.1
        (subst (λ o. SameButMark (entry_at (all_entries m) r a d) o) (own_new d) (subst (λ o. SameButMark o (entry_at w.items r a d)) (own_old d) (h r a d)))
    | inr t ↦ subst (λ o. SameButMark (entry_at (all_entries m) x c d) o) (sym (others_same (pair x c) d t.0)) (same_all (entry_at (all_entries m) x c d))
  ]

  pub all_marked : (b : ℕ) (on : Bool) → IsMarkSet r a b on v.items w.items → IsMarkSet r a b on (all_entries m) (all_entries n)
  all_marked b on h = record {
    entries = all_alike h.entries;
    here = λ e k. h.here e (own_new b ∙ k);
    others = λ x c d other. elim (this_pair (pair r a) (pair x c)) [
      | inl t ↦
          let x_is : r ≡ x = ap (λ (q : Pair). q.rule) t.1 in
          let c_is : a ≡ c = ap (λ (q : Pair). q.subject) t.1 in
          rw (← x_is, ← c_is) (sym (own_new d) ∙ (h.others r a d (λ z. other (sym x_is, sym c_is, z.2)) ∙ own_old d))
      | inr t ↦ others_same (pair x c) d t.0
    ];
  }

  pub all_same : w.items ≡ v.items → all_entries n ≡ all_entries m
  all_same e = same_entries (all_entries n) (all_entries m) (runs_ascend n s.ordered_new set_runs) (runs_ascend m s.ordered s.runs) (λ x c d.
      elim (this_pair (pair r a) (pair x c)) [
        | inl t ↦ subst (λ (q : Pair). entry_at (all_entries n) q.rule q.subject d ≡ entry_at (all_entries m) q.rule q.subject d) t.1
            (sym (own_new d) ∙ (ap (λ es. entry_at es r a d) e ∙ own_old d))
        | inr t ↦ others_same (pair x c) d t.0
      ])

  pub same_cause : (b : ℕ) (on : Bool) → mark_cause (all_entries m) r a b on ≡ mark_cause v.items r a b on
  same_cause b on = rw (own_old b) refl

-- ---- as `get_mut` lends the run, and it is written
pub run_set : (r a : ℕ) (m n : BTreeMap Pair (Vec Entry)) (v w : Vec Entry) → IsOrdered pair_cmp m → AreRuns m
    → get pair_cmp m (pair r a) ≡ Some v → WritesThrough pair_cmp (pair_cmp (pair r a)) m w n → IsAscending w.items
    → ((k c d : ℕ) → SameButMark (entry_at v.items k c d) (entry_at w.items k c d)) → IsRunSet r a m n v w
run_set r a m n v w s h e t u same = record {
  ordered = s;
  ordered_new = t.4;
  runs = h;
  there = e;
  set = (t.3 (subst IsSome (sym e) refl)).0;
  run = marked_own r a v.items w.items u same (run_at m (pair r a) v h e);
}

pub length_marked : (r a : ℕ) (m n : BTreeMap Pair (Vec Entry)) (v w : Vec Entry) → get pair_cmp m (pair r a) ≡ Some v
    → WritesThrough pair_cmp (pair_cmp (pair r a)) m w n → length w.items ≡ length v.items → length (all_entries n) ≡ length (all_entries m)
length_marked r a m n v w e t l = ap (λ es. length (entries_in (values_of es))) t.0 ∙ length_set (is_at (pair_cmp (pair r a))) m.entries v w e l

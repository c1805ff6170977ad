-- Runs that are taken out and put in, pair by pair.
use Rattle.std.proofs.Common.{◌≡◌, ◌⊎◌, inl, inr, ℕ, ◌+◌, ◌≤◌, Bool, true, false, arith, refl, sym, ◌∙◌, ap, subst, map, List, [], ◌∷◌, ◌++◌, length, Option, Some, None, IsSome, Contains, Bor}
use Rattle.std.specs.BTreeMap.{BTreeMap, IsOrdered, get, keys, is_at, insert_entry}
use Rattle.std.specs.Cmp.{eq_by_cmp_equiv}
use Rattle.std.specs.Global.{Vec}
use Rattle.std.specs.Map.{keys_of, values_of, remove_entry, lookup}
use Rattle.std.specs.Map.Iter.{deref}
use Rattle.std.specs.Option.{option_map, unwrap_or, is_some}
use Rattle.std.proofs.lemmas.List.{map-append}
use Rattle.std.proofs.lemmas.List.Concat.{length-flat_map}
use Rattle.std.proofs.lemmas.List.Elements.{Contains-append_left, Contains-append_right, Contains-push, Contains-push_cases}
use Rattle.std.proofs.lemmas.Map.Entries.{sum_by-remove_entry, sum_by-insert_entry}
use Rattle.std.proofs.lemmas.Map.Views.{IsSome-lookup_from_Contains}
use Rattle.plane_terms.specs.Lists.{Every}
use Rattle.plane_terms.proofs.ListLemmas.{every_left, every_right}
use Rattle.topology_terms.specs.Entry.{Entry, entry_at}
use Rattle.sound_laws.proofs.Lists.{same_entries}
use Rattle.validation_laws.specs.Replaced.{AreFresh, IsReplaced}
use Rattle.error_store.specs.Pairs.{pair, pair_cmp, entries_in, all_entries, IsOf, IsRunOf, AreRuns}
use Rattle.error_store.specs.Cutting.{AreOrderedRuns, AreFilled}
use Rattle.error_store.specs.Exchange.{HasRoom, over, IsSetAt, KeepsBeside, AreDropped, ArePutIn}
use Rattle.error_store.specs.Runs.{ArePairsOf}
use Rattle.error_store.specs.declared.pair.Pair.{Pair}
use Rattle.error_store.proofs.Pairs.{Run, pairs_total, this_pair, runs_ascend, at_pair, found_in, run_at, runs_from_get}
use Rattle.error_store.proofs.Remarking.{AreMarked, remarked_as, marked_at, marked_chosen}

abbrev pub Runs : Type 0
Runs = BTreeMap Pair (Vec Entry)

-- ---- the error of a key
pub found_none : (m : Runs) → AreOrderedRuns m → (r a b : ℕ) (p : Pair) → p ≡ pair r a → None ≡ get pair_cmp m p
    → entry_at (all_entries m) r a b ≡ None
found_none m u r a b p e n = at_pair m u.ordered u.runs r a b
    ∙ ap (λ (o : Option (Vec Entry)). found_in o r a b) (subst (λ (x : Pair). get pair_cmp m x ≡ None) e (sym n))

pub found_some : (m : Runs) → AreOrderedRuns m → (r a b : ℕ) (p : Pair) (v : Vec Entry) → p ≡ pair r a → Some v ≡ get pair_cmp m p
    → entry_at (all_entries m) r a b ≡ entry_at v.items r a b
found_some m u r a b p v e n = at_pair m u.ordered u.runs r a b
    ∙ ap (λ (o : Option (Vec Entry)). found_in o r a b) (subst (λ (x : Pair). get pair_cmp m x ≡ Some v) e (sym n))

-- ---- one pair set
pub set_here : (p : Pair) (o : Option (Vec Entry)) (m n : Runs) → IsSetAt p o m n → get pair_cmp n p ≡ o
set_here p o m n h = elim (this_pair p p) [ inl t ↦ h p ∙ rw t.0 refl | inr t ↦ absurd (t.1 refl) ]

pub set_other : (p : Pair) (o : Option (Vec Entry)) (m n : Runs) → IsSetAt p o m n → (q : Pair) → ¬ (p ≡ q)
    → get pair_cmp n q ≡ get pair_cmp m q
set_other p o m n h q d = elim (this_pair p q) [ inl t ↦ absurd (d t.1) | inr t ↦ h q ∙ rw t.0 refl ]

at_same : (m : Runs) (p q : Pair) (o : Option (Vec Entry)) → p ≡ q → get pair_cmp m p ≡ o → get pair_cmp m q ≡ o
at_same m p q o e h = subst (λ (x : Pair). get pair_cmp m x ≡ o) e h

pub same_or_other : (p q : Pair) → (p ≡ q) ⊎ ¬ (p ≡ q)
same_or_other p q = elim (this_pair p q) [ inl t ↦ inl t.1 | inr t ↦ inr t.1 ]

pub runs_set : (p : Pair) (o : Option (Vec Entry)) (m n : Runs) → IsOrdered pair_cmp n → IsSetAt p o m n
    → ((v : Vec Entry) → o ≡ Some v → IsRunOf p v.items) → AreRuns m → AreOrderedRuns n
runs_set p o m n s h own u = record {
  ordered = s;
  runs = runs_from_get n s (λ q v e. elim (same_or_other p q) [
    | inl k ↦ subst (λ (x : Pair). IsRunOf x v.items) k (own v (sym (at_same n p q o k (set_here p o m n h)) ∙ e))
    | inr k ↦ run_at m q v u (sym (set_other p o m n h q k) ∙ e)
  ]);
}

-- ---- how many errors there are
abbrev pub count_of : Option (Vec Entry) → ℕ
count_of o = unwrap_or (option_map (λ (v : Vec Entry). length v.items) o) 0

removed_in : (p : Pair) (rs : List Run)
    → length (entries_in (values_of (remove_entry (is_at (pair_cmp p)) rs))) + count_of (lookup (is_at (pair_cmp p)) rs)
    ≡ length (entries_in (values_of rs))
removed_in p rs =
    let left = remove_entry (is_at (pair_cmp p)) rs in
    rw (length-flat_map (λ (v : Vec Entry). v.items) (values_of left), length-flat_map (λ (v : Vec Entry). v.items) (values_of rs))
    (sum_by-remove_entry (λ (v : Vec Entry). length v.items) (is_at (pair_cmp p)) rs)

pub count_removed : (p : Pair) (m n : Runs) → n.entries ≡ remove_entry (is_at (pair_cmp p)) m.entries
    → length (all_entries n) + count_of (get pair_cmp m p) ≡ length (all_entries m)
count_removed p m n e = rw e (removed_in p m.entries)

pub count_put : (p : Pair) (v : Vec Entry) (m n : Runs) → IsOrdered pair_cmp m → n.entries ≡ insert_entry pair_cmp m.entries p v
    → length (all_entries n) + count_of (get pair_cmp m p) ≡ length (all_entries m) + length v.items
count_put p v m n s e =
    rw (length-flat_map (λ (v : Vec Entry). v.items) (values_of n.entries), length-flat_map (λ (v : Vec Entry). v.items) (values_of m.entries), e)
    (sum_by-insert_entry (λ (v : Vec Entry). length v.items) pairs_total m.entries p v s)

-- a run that is there has no more errors than there are in all
pub run_fits : (p : Pair) (m : Runs) (v : Vec Entry) → Some v ≡ get pair_cmp m p → length v.items ≤ length (all_entries m)
run_fits p m v e =
    let left = length (entries_in (values_of (remove_entry (is_at (pair_cmp p)) m.entries))) in
    let c : left + length v.items ≡ length (all_entries m) = rw (← e) at (removed_in p m.entries) in
    omega (arith, c)

pub fewer_by : (p : Pair) (m n : Runs) (v : Vec Entry) → n.entries ≡ remove_entry (is_at (pair_cmp p)) m.entries → Some v ≡ get pair_cmp m p
    → length (all_entries n) + length v.items ≡ length (all_entries m)
fewer_by p m n v r e = rw (← e) at (count_removed p m n r)

pub changed_by : (p : Pair) (v w : Vec Entry) (m n : Runs) → IsOrdered pair_cmp m → n.entries ≡ insert_entry pair_cmp m.entries p v
    → Some w ≡ get pair_cmp m p → length (all_entries n) + length w.items ≡ length (all_entries m) + length v.items
changed_by p v w m n s r e = rw (← e) at (count_put p v m n s r)

-- ---- an empty run
pub empty_run : (p : Pair) (v w : Vec Entry) → v.items ≡ [] → Some v ≡ Some w → IsRunOf p w.items
empty_run p v w e s =
    let same : v ≡ w = cc in
    subst (λ (x : Vec Entry). IsRunOf p x.items) same (subst (IsRunOf p) (sym e) (tt, tt))

pub this_run : (p : Pair) (v w : Vec Entry) → IsRunOf p v.items → Some v ≡ Some w → IsRunOf p w.items
this_run p v w h s = let same : v ≡ w = cc in subst (λ (x : Vec Entry). IsRunOf p x.items) same h

pub no_run : (p : Pair) (w : Vec Entry) → None ≡ Some w → IsRunOf p w.items
no_run p w s = absurd cc

pub none_told : (o : Option (Vec Entry)) (b : Bool) → b ≡ is_some o → b ≡ false → o ≡ None
none_told None b e f = refl
none_told (Some v) b e f = let w : true ≡ false = sym e ∙ f in absurd cc

empty_found : (p : Pair) (v : Vec Entry) (m n : Runs) → v.items ≡ [] → get pair_cmp m p ≡ None → IsSetAt p (Some v) m n
    → (q : Pair) (r a b : ℕ) → found_in (get pair_cmp n q) r a b ≡ found_in (get pair_cmp m q) r a b
unfolding entry_at
empty_found p v m n e none h q r a b = elim (same_or_other p q) [
  | inl k ↦ rw (at_same n p q (Some v) k (set_here p (Some v) m n h), at_same m p q None k none, e) refl
  | inr k ↦ rw (set_other p (Some v) m n h q k) refl
]

pub empty_same : (p : Pair) (v : Vec Entry) (m n : Runs) → AreOrderedRuns m → AreOrderedRuns n → v.items ≡ [] → get pair_cmp m p ≡ None
    → IsSetAt p (Some v) m n → all_entries n ≡ all_entries m
empty_same p v m n u w e none h = same_entries (all_entries n) (all_entries m) (runs_ascend n w.ordered w.runs)
    (runs_ascend m u.ordered u.runs) (λ r a b. at_pair n w.ordered w.runs r a b ∙ (empty_found p v m n e none h (pair r a) r a b
    ∙ sym (at_pair m u.ordered u.runs r a b)))

pub some_of : (o : Option (Vec Entry)) (v : Vec Entry) → o ≡ Some v → IsSome o
some_of o v e = rw e refl

pub none_some : (o : Option (Vec Entry)) → o ≡ None → IsSome o → ⊥
none_some o e s = let f : false ≡ true = rw e at s in absurd cc

-- a pair more has room
pub room_more : (p : Pair) (v : Vec Entry) (m n : Runs) → IsSetAt p (Some v) m n → HasRoom m n
room_more p v m n h q s = elim (same_or_other p q) [
  | inl k ↦ some_of (get pair_cmp n q) v (at_same n p q (Some v) k (set_here p (Some v) m n h))
  | inr k ↦ subst IsSome (sym (set_other p (Some v) m n h q k)) s
]

-- so far there is room for the pairs xs, and for one more
pub room_on : (m n : Runs) → HasRoom m n → (xs : List (Bor Pair)) (x : Bor Pair) → Every (λ (p : Pair). IsSome (get pair_cmp m p)) (map deref xs)
    → IsSome (get pair_cmp n x.now) → Every (λ (p : Pair). IsSome (get pair_cmp n p)) (map deref (xs ++ x ∷ []))
room_on m n h [] x u s = (s, tt)
room_on m n h (y ∷ xs) x u s = (h y.now u.0, room_on m n h xs x u.1 s)

room_in : (m : Runs) (rs : List Run) → Every (λ (p : Pair). IsSome (get pair_cmp m p)) (keys_of rs) → (p : Pair)
    → IsSome (lookup (is_at (pair_cmp p)) rs) → IsSome (get pair_cmp m p)
room_in m [] u p s = let w : false ≡ true = s in absurd cc
room_in m (q ∷ rs) u p s = elim (this_pair p q.0) [
  | inl t ↦ subst (λ (x : Pair). IsSome (get pair_cmp m x)) (sym t.1) u.0
  | inr t ↦ room_in m rs u.1 p (rw t.0 at s)
]

pub room_all : (fresh m : Runs) (ps : List Pair) → ps ≡ keys fresh → Every (λ (p : Pair). IsSome (get pair_cmp m p)) ps → HasRoom fresh m
room_all fresh m ps e u p s = room_in m fresh.entries (subst (Every (λ (p : Pair). IsSome (get pair_cmp m p))) e u) p s

-- ---- beside some pairs
pub beside_set : (p : Pair) (o : Option (Vec Entry)) (m n : Runs) → IsSetAt p o m n → KeepsBeside (p ∷ []) m n
beside_set p o m n h q out = set_other p o m n h q (λ e. out (0, omega arith, e))

pub beside_on : (m n o : Runs) (xs : List (Bor Pair)) (x : Bor Pair) → KeepsBeside (map deref xs) m n → KeepsBeside (x.now ∷ []) n o
    → KeepsBeside (map deref (xs ++ x ∷ [])) m o
beside_on m n o xs x h k q out =
    let ps = map deref xs in
    let apart : ¬ (Contains (ps ++ x.now ∷ []) q) = rw (map-append deref xs (x ∷ [])) at out in
    k q (λ c. apart (Contains-append_right ps (x.now ∷ []) q c)) ∙ h q (λ c. apart (Contains-append_left ps (x.now ∷ []) q c))

-- ---- what goes
pub dropped_none : (fresh m : Runs) → AreDropped [] fresh m m
dropped_none fresh m = record { kept = λ q n. refl; left = λ q s. refl; gone = λ q c none. absurd (omega (arith, c.1)) }

pub dropped_past : (ps : List Pair) (fresh old cur : Runs) (p : Pair) → AreDropped ps fresh old cur → IsSome (get pair_cmp fresh p)
    → AreDropped (ps ++ p ∷ []) fresh old cur
dropped_past ps fresh old cur p d some = record {
  kept = λ q n. d.kept q (λ c. n (Contains-append_left ps (p ∷ []) q c));
  left = d.left;
  gone = λ q c none. elim (Contains-push_cases ps p q c) [
    | inl k ↦ d.gone q k none
    | inr e ↦ absurd (none_some (get pair_cmp fresh p) (at_same fresh q p None (sym e) none) some)
  ];
}

pub dropped_out : (ps : List Pair) (fresh old cur new : Runs) (p : Pair) → AreDropped ps fresh old cur → get pair_cmp fresh p ≡ None
    → IsSetAt p None cur new → AreDropped (ps ++ p ∷ []) fresh old new
dropped_out ps fresh old cur new p d absent h = record {
  kept = λ q n. set_other p None cur new h q (λ k. n (subst (Contains (ps ++ p ∷ [])) k (Contains-push ps p)))
      ∙ d.kept q (λ c. n (Contains-append_left ps (p ∷ []) q c));
  left = λ q s. set_other p None cur new h q (λ k. none_some (get pair_cmp fresh q) (at_same fresh p q None k absent) s) ∙ d.left q s;
  gone = λ q c none. elim (same_or_other p q) [
    | inl k ↦ at_same new p q None k (set_here p None cur new h)
    | inr k ↦ elim (Contains-push_cases ps p q c) [
      | inl f ↦ set_other p None cur new h q k ∙ d.gone q f none
      | inr e ↦ absurd (k e)
    ]
  ];
}

-- ---- what comes
pub record IsPutting (all old fresh cur : Runs) : Type 0 where
  pub put : (p : Pair) → over (get pair_cmp fresh p) (get pair_cmp cur p) ≡ over (get pair_cmp all p) (get pair_cmp old p)
  pub room : HasRoom fresh cur
  pub runs : AreOrderedRuns cur
  pub fresh_runs : AreOrderedRuns fresh

-- ---- all
-- each fresh run is of a selected subject
runs_chosen : (selected : List ℕ) (rs : List Run) → Every (λ (q : Run). IsRunOf q.0 q.1.items) rs
    → Every (λ (q : Run). ¬ (q.1.items ≡ [])) rs → Every (λ (e : Entry). Contains selected e.subject) (entries_in (values_of rs))
    → (p : Pair) (v : Vec Entry) → lookup (is_at (pair_cmp p)) rs ≡ Some v → Contains selected p.subject
runs_chosen selected [] h f c p v e = let w : None ≡ Some v = e in absurd cc
runs_chosen selected (q ∷ rs) h f c p v e = elim (this_pair p q.0) [
  | inl t ↦ subst (λ (x : Pair). Contains selected x.subject) (sym t.1)
      (of_run q.0 q.1.items h.0.1 f.0 (every_left (λ (e : Entry). Contains selected e.subject) q.1.items (entries_in (values_of rs)) c))
  | inr t ↦ runs_chosen selected rs h.1 f.1 (every_right (λ (e : Entry). Contains selected e.subject) q.1.items (entries_in (values_of rs)) c)
      p v (rw t.0 at e)
]
  where
    of_run : (p : Pair) (es : List Entry) → Every (IsOf p.rule p.subject) es → ¬ (es ≡ []) → Every (λ (e : Entry). Contains selected e.subject) es
        → Contains selected p.subject
    of_run p [] o n c = absurd (n refl)
    of_run p (e ∷ es) o n c = subst (Contains selected) o.0.subject c.0

-- what is said of the maps that the steps leave
pub record AreExchanged (selected : List ℕ) (pairs : List Pair) (old fresh mid left new : Runs) : Type 0 where
  pub pairs_of : ArePairsOf selected old pairs
  pub beside : KeepsBeside (keys fresh) old mid
  pub same : all_entries mid ≡ all_entries old
  pub mid_runs : AreOrderedRuns mid
  pub fresh_runs : AreOrderedRuns fresh
  pub new_runs : AreOrderedRuns new
  pub filled : AreFilled fresh
  pub dropped : AreDropped pairs fresh mid left
  pub put : ArePutIn fresh left new

new_kept : (selected : List ℕ) (pairs : List Pair) (old fresh mid left new : Runs) → AreExchanged selected pairs old fresh mid left new
    → ((p : Pair) (v : Vec Entry) → get pair_cmp fresh p ≡ Some v → Contains selected p.subject)
    → (p : Pair) → ¬ (Contains selected p.subject) → get pair_cmp new p ≡ get pair_cmp mid p
new_kept selected pairs old fresh mid left new h chosen p out = h.put p ∙ by (get pair_cmp fresh p) refl
  where
    by : (o : Option (Vec Entry)) → get pair_cmp fresh p ≡ o → over o (get pair_cmp left p) ≡ get pair_cmp mid p
    by None e = h.dropped.kept p (λ c. out ((h.pairs_of p).0 c).0)
    by (Some v) e = absurd (out (chosen p v e))

-- the room that was made is at pairs of fresh runs, so that what else goes is at the pairs that were noted
new_came : (selected : List ℕ) (pairs : List Pair) (old fresh mid left new : Runs) → AreExchanged selected pairs old fresh mid left new
    → (p : Pair) → Contains selected p.subject → get pair_cmp new p ≡ get pair_cmp fresh p
new_came selected pairs old fresh mid left new h p c = h.put p ∙ by (get pair_cmp fresh p) refl
  where
    gone : get pair_cmp fresh p ≡ None → (o : Option (Vec Entry)) → get pair_cmp old p ≡ o → get pair_cmp left p ≡ None
    gone e None k =
        h.dropped.kept p (λ n. none_some (get pair_cmp old p) k ((h.pairs_of p).0 n).1)
        ∙ (h.beside p (λ n. none_some (get pair_cmp fresh p) e
        (IsSome-lookup_from_Contains (eq_by_cmp_equiv pairs_total) p fresh.entries n)) ∙ k)
    gone e (Some v) k = h.dropped.gone p ((h.pairs_of p).1 (c, some_of (get pair_cmp old p) v k)) e

    by : (o : Option (Vec Entry)) → get pair_cmp fresh p ≡ o → over o (get pair_cmp left p) ≡ o
    by None e = gone e (get pair_cmp old p) refl
    by (Some v) e = refl

-- where there was no run, the fresh ones are all that there are
none_at : (es : List (Pair × Vec Entry)) (p : Pair) → length es ≡ 0 → lookup (is_at (pair_cmp p)) es ≡ None
none_at [] p e = refl
none_at (r ∷ es) p e = absurd (omega (arith, e))

over_none : (o w : Option (Vec Entry)) → w ≡ None → o ≡ over o w
over_none None w e = sym e
over_none (Some v) w e = refl

pub all_come : (selected : List ℕ) (pairs : List Pair) (old fresh : Runs) → ArePairsOf selected old pairs → length old.entries ≡ 0
    → AreOrderedRuns old → AreOrderedRuns fresh → AreFilled fresh → AreExchanged selected pairs old fresh old old fresh
all_come selected pairs old fresh of none ordered runs filled = record {
  pairs_of = of;
  beside = λ p out. refl;
  same = refl;
  mid_runs = ordered;
  fresh_runs = runs;
  new_runs = runs;
  filled = filled;
  dropped = record { kept = λ p out. refl; left = λ p room. refl; gone = λ p there off. none_at old.entries p none };
  put = λ p. over_none (get pair_cmp fresh p) (get pair_cmp old p) (none_at old.entries p none);
}

pub exchanged : (selected : List ℕ) (pairs : List Pair) (old fresh mid left new : Runs) (es marked : List Entry)
    → AreExchanged selected pairs old fresh mid left new → all_entries fresh ≡ marked → AreMarked (all_entries old) es marked → AreFresh selected es
    → IsReplaced selected (all_entries old) es (all_entries new)
exchanged selected pairs old fresh mid left new es marked h list marks u =
    let chosen = runs_chosen selected fresh.entries h.fresh_runs.runs h.filled
    (subst (Every (λ (e : Entry). Contains selected e.subject)) (sym list) (marked_chosen selected (all_entries old) es marked marks u)) in
    record {
      kept = λ r a b out. at_pair new h.new_runs.ordered h.new_runs.runs r a b
          ∙ (ap (λ (o : Option (Vec Entry)). found_in o r a b) (new_kept selected pairs old fresh mid left new h chosen (pair r a) out)
          ∙ (sym (at_pair mid h.mid_runs.ordered h.mid_runs.runs r a b) ∙ ap (λ xs. entry_at xs r a b) h.same));
      came = λ r a b c. remarked_as (entry_at (all_entries old) r a b) (entry_at es r a b) (entry_at marked r a b)
          (entry_at es r a b) (entry_at (all_entries new) r a b) refl
          (at_pair new h.new_runs.ordered h.new_runs.runs r a b
          ∙ (ap (λ (o : Option (Vec Entry)). found_in o r a b) (new_came selected pairs old fresh mid left new h (pair r a) c)
          ∙ (sym (at_pair fresh h.fresh_runs.ordered h.fresh_runs.runs r a b) ∙ ap (λ xs. entry_at xs r a b) list)))
          (marked_at (all_entries old) es marked marks r a b);
    }

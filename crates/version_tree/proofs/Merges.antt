-- A reconcile of one version is one of the tree.
use Rattle.std.proofs.Common.{◌≡◌, ◌≢◌, inl, inr, ℕ, zero, suc, ◌+◌, true, List, [], ◌∷◌, Option, Some, None, Result, Ok, Err, refl, sym, ◌∙◌, ap, subst, arith}
use Rattle.std.specs.Prelude.{is_some, slice_get, slice_set, bytes_eq, option_and_then, MatchOption, if◌then◌else◌}
use Rattle.std.specs.Option.{option_map}
use Rattle.std.specs.Result.{IfOk, IfErr, IsErrAnd, OnErr, MatchResult}
use Rattle.plane_terms.specs.Lists.{Every}
use Rattle.topology_terms.specs.Feature.{Feature}
use Rattle.topology_terms.specs.Meaning.{Meaning}
use Rattle.topology_terms.specs.Project.{Project}
use Rattle.sound_laws.proofs.Edits.{same_or_not}
use Rattle.version_terms.specs.declared.place.Place.{Place}
use Rattle.version_terms.specs.declared.place.Place.TheVariants.{Current, Other}
use Rattle.version_terms.specs.Versions.{Version, Tree, IsTree, IsAlike, default_name, all_of, index_from, place_of, version_at, with_at, root_of, project_in, IsAt}
use Rattle.version_terms.specs.VersionChanges.{BecomesAt, IsReconciledTo, IsReconciled, LeavesProject, IsPartOf, raised_version, greatest_next}
use Rattle.version_tree.specs.declared.version.Merged.{Merged}
use Rattle.version_tree.specs.Lists.{ChangesAt, Keeps, Moves}
use Rattle.version_tree.specs.Merges.{Merging, Stopping}
use Rattle.version_tree.specs.Trees.{IsInPart}
use Rattle.version_tree.proofs.Keeping.{every_get, greatest_current}
use Rattle.std.proofs.lemmas.Option.{slice_get_within}
use Rattle.version_tree.proofs.Becoming.{Each, IsRaised, current_becomes, other_becomes, other_keeps, becomes_each}

-- ---- at an index
pub merged_in : {E : Type 0} (M : Meaning) (D : List Feature) (r : Result (Option Merged) E) (xs : List Version) (k : ℕ) (v w : Version)
    → slice_get xs k ≡ Some v
    → IfOk r (λ o. MatchOption o ((v.base ≡ None) × (w ≡ v)) (λ m. IsReconciledTo D m.taken m.conflicts v w))
    → OnErr r (LeavesProject (IsPartOf D) v w) → Moves M v w
    → MatchResult r (λ o. ChangesAt k (Merging M D o) xs (slice_set xs k w)) (λ e. ChangesAt k (Stopping M D) xs (slice_set xs k w))
merged_in M D (Ok None) xs k v w g ok err m = record { was = v; is = w; there = g; changed = (ok, m); list = refl }
merged_in M D (Ok (Some o)) xs k v w g ok err m = record { was = v; is = w; there = g; changed = (ok, m); list = refl }
merged_in M D (Err e) xs k v w g ok err m = record { was = v; is = w; there = g; changed = (err, m); list = refl }

-- ---- at a place
pub merged_current : {E : Type 0} (M : Meaning) (D : List Feature) (r : Result (Option Merged) E) (t : Tree) (w : Version)
    → IfOk r (λ o. MatchOption o ((t.current.base ≡ None) × (w ≡ t.current)) (λ m. IsReconciledTo D m.taken m.conflicts t.current w))
    → OnErr r (LeavesProject (IsPartOf D) t.current w) → Moves M t.current w
    → MatchResult r (λ o. BecomesAt Current (Merging M D o) t (record t { current = w }))
    (λ e. BecomesAt Current (Stopping M D) t (record t { current = w }))
merged_current M D (Ok None) t w ok err m = current_becomes (Merging M D None) t w (ok, m)
merged_current M D (Ok (Some o)) t w ok err m = current_becomes (Merging M D (Some o)) t w (ok, m)
merged_current M D (Err e) t w ok err m = current_becomes (Stopping M D) t w (err, m)

pub merged_other : {E : Type 0} (M : Meaning) (D : List Feature) (r : Result (Option Merged) E) (t : Tree) (k : ℕ) (ys : List Version)
    → MatchResult r (λ o. ChangesAt k (Merging M D o) t.others ys) (λ e. ChangesAt k (Stopping M D) t.others ys)
    → MatchResult r (λ o. BecomesAt (Other k) (Merging M D o) t (record t { others = ys }))
    (λ e. BecomesAt (Other k) (Stopping M D) t (record t { others = ys }))
merged_other M D (Ok o) t k ys c = other_becomes (Merging M D o) t k ys c
merged_other M D (Err e) t k ys c = other_becomes (Stopping M D) t k ys c

-- ---- what is kept
pub still_alike : (M : Meaning) (p : Project) (v w : Version) → Moves M v w → IsAlike p v → IsAlike p w
still_alike M p v w m a = record {
  classes = m.alike.classes ∙ a.classes;
  rules = m.alike.rules ∙ a.rules;
  next = rw m.alike.next a.next;
}

alike_still : (M : Meaning) (v w : Version) (os : List Version) → Moves M v w → Every (IsAlike v.project) os → Every (IsAlike w.project) os
alike_still M v w [] m e = tt
alike_still M v w (o ∷ os) m e = (
  record {
    classes = e.0.classes ∙ sym m.alike.classes;
    rules = e.0.rules ∙ sym m.alike.rules;
    next = rw m.alike.next e.0.next;
  },
  alike_still M v w os m e.1,
)

pub current_keeps : (M : Meaning) (t : Tree) (w : Version) → IsTree t → Moves M t.current w → IsTree (record t { current = w })
current_keeps M t w i m = record {
  few = i.few;
  root = elim i.root [ inl p ↦ inl (m.name ∙ p) | inr s ↦ inr s ];
  alike = alike_still M t.current w t.others m i.alike;
}

pub merged_keeps : {E : Type 0} (M : Meaning) (D : List Feature) (r : Result (Option Merged) E) (t : Tree) (k : ℕ) (ys : List Version)
    → IsTree t → MatchResult r (λ o. ChangesAt k (Merging M D o) t.others ys) (λ e. ChangesAt k (Stopping M D) t.others ys)
    → IsTree (record t { others = ys })
merged_keeps M D (Ok o) t k ys i c = other_keeps (Merging M D o) t k ys i c c.changed.1.name
    (still_alike M t.current.project c.was c.is c.changed.1 (every_get (IsAlike t.current.project) t.others k c.was i.alike c.there))
merged_keeps M D (Err e) t k ys i c = other_keeps (Stopping M D) t k ys i c c.changed.1.name
    (still_alike M t.current.project c.was c.is c.changed.1 (every_get (IsAlike t.current.project) t.others k c.was i.alike c.there))

-- ---- names and places stay
same_test : (m n name : List ℕ) → m ≡ n → bytes_eq m name ≡ bytes_eq n name
same_test m n name e = ap (λ (x : List ℕ). bytes_eq x name) e

index_same : (n : ℕ) (os : List Version) (k : ℕ) (v w : Version) (name : List ℕ) → slice_get os k ≡ Some v → w.name ≡ v.name
    → index_from n (slice_set os k w) name ≡ index_from n os name
index_same n [] k v w name g e = refl
index_same n (o ∷ os) zero v w name g e =
    let s : o ≡ v = cc in
    let same : w.name ≡ o.name = e ∙ ap (λ (x : Version). x.name) (sym s) in
    ap (λ b. if b then Some n else index_from (n + 1) os name) (same_test w.name o.name name same)
index_same n (o ∷ os) (suc k) v w name g e =
    ap (λ r. if bytes_eq o.name name then Some n else r) (index_same (n + 1) os k v w name g e)

pub place_same : (t : Tree) (i : Place) (v w : Version) (name : List ℕ) → version_at t i ≡ Some v → w.name ≡ v.name
    → place_of (with_at t i w) name ≡ place_of t name
place_same t Current v w name g e =
    let s : t.current ≡ v = cc in
    let same : w.name ≡ t.current.name = e ∙ ap (λ (x : Version). x.name) (sym s) in
    ap (λ b. if b then Some Current else option_map (λ (k : ℕ). Other k) (index_from 0 t.others name))
    (same_test w.name t.current.name name same)
place_same t (Other k) v w name g e =
    ap (λ r. if bytes_eq t.current.name name then Some Current else option_map (λ (j : ℕ). Other j) r)
    (index_same 0 t.others k v w name g e)

get_here : {A : Type 0} (xs : List A) (k : ℕ) (v w : A) → slice_get xs k ≡ Some v → slice_get (slice_set xs k w) k ≡ Some w
get_here [] k v w g = cc
get_here (x ∷ xs) zero v w g = refl
get_here (x ∷ xs) (suc k) v w g = get_here xs k v w g

pub get_off : {A : Type 0} (xs : List A) (k j : ℕ) (w : A) → j ≢ k → slice_get (slice_set xs k w) j ≡ slice_get xs j
get_off [] k j w d = refl
get_off (x ∷ xs) zero zero w d = absurd (d refl)
get_off (x ∷ xs) zero (suc j) w d = refl
get_off (x ∷ xs) (suc k) zero w d = refl
get_off (x ∷ xs) (suc k) (suc j) w d = get_off xs k j w (λ e. d (ap (λ n. suc n) e))

set_twice : {A : Type 0} (xs : List A) (k : ℕ) (v w : A) → slice_set (slice_set xs k v) k w ≡ slice_set xs k w
set_twice [] k v w = refl
set_twice (x ∷ xs) zero v w = refl
set_twice (x ∷ xs) (suc k) v w = ap (λ l. x ∷ l) (set_twice xs k v w)

pub at_here : (t : Tree) (i : Place) (v w : Version) → version_at t i ≡ Some v → version_at (with_at t i w) i ≡ Some w
at_here t Current v w g = refl
at_here t (Other k) v w g = get_here t.others k v w g

pub with_twice : (t : Tree) (i : Place) (v w : Version) → with_at (with_at t i v) i w ≡ with_at t i w
with_twice t Current v w = refl
with_twice t (Other k) v w = ap (λ l. record t { others = l }) (set_twice t.others k v w)

-- ---- two changes of one version, one after the other
pub both_become : (P Q : Version → Version → Type 0) (i : Place) (t u s : Tree) → BecomesAt i P t u → BecomesAt i Q u s
    → BecomesAt i (λ v w. (x : Version) × P v x × Q x w) t s
both_become P Q i t u s a b =
    let mid : version_at u i ≡ Some a.is = subst (λ (x : Tree). version_at x i ≡ Some a.is) (sym a.tree) (at_here t i a.was a.is a.there) in
    let there = b.there in
    let same : b.was ≡ a.is = cc in
    record {
      was = a.was;
      is = b.is;
      there = a.there;
      changed = (a.is, a.changed, subst (λ (x : Version). Q x b.is) same b.changed);
      tree = b.tree ∙ (ap (λ (x : Tree). with_at x i b.is) a.tree ∙ with_twice t i a.is b.is);
    }

pub becomes_by : (P Q : Version → Version → Type 0) (i : Place) (t u : Tree) → ((v w : Version) → P v w → Q v w) → BecomesAt i P t u
    → BecomesAt i Q t u
becomes_by P Q i t u f b = record { was = b.was; is = b.is; there = b.there; changed = f b.was b.is b.changed; tree = b.tree }

-- ---- the features of `default` stay where a version's features stay
pub features_in : Option Version → List Feature
features_in o = (project_in o).features

pub features_at : (t : Tree) (i : Place) (v w : Version) → version_at t i ≡ Some v → w.project.features ≡ v.project.features → (o : Option Place)
    → features_in (option_and_then (version_at (with_at t i w)) o) ≡ features_in (option_and_then (version_at t) o)
unfolding features_in
features_at t i v w g e None = refl
features_at t Current v w g e (Some Current) =
    let s : t.current ≡ v = cc in e ∙ ap (λ (x : Version). x.project.features) (sym s)
features_at t Current v w g e (Some (Other j)) = refl
features_at t (Other k) v w g e (Some Current) = refl
features_at t (Other k) v w g e (Some (Other j)) = elim (same_or_not j k) [
  | inl s ↦ subst (λ n. features_in (slice_get (slice_set t.others k w) n) ≡ features_in (slice_get t.others n)) (sym s)
      (ap features_in (get_here t.others k v w g) ∙ (e ∙ sym (ap features_in g)))
  | inr d ↦ ap features_in (get_off t.others k j w d)
]

pub root_features : (P : Version → Version → Type 0) (i : Place) (t u : Tree)
    → ((v w : Version) → P v w → (w.name ≡ v.name) × (w.project.features ≡ v.project.features)) → BecomesAt i P t u
    → (root_of u).features ≡ (root_of t).features
unfolding features_in
root_features P i t u f b =
    let y = f b.was b.is b.changed in
    ap (λ (x : Tree). (root_of x).features) b.tree
    ∙ (ap (λ o. features_in (option_and_then (version_at (with_at t i b.is)) o)) (place_same t i b.was b.is default_name b.there y.0)
    ∙ features_at t i b.was b.is b.there y.1 (place_of t default_name))

-- ---- the version that is posted has after the raise the features that it had before
pub raised_features : (M : Meaning) (n : ℕ) (i : Place) (t u : Tree) (j : Place) (v w : Version) → BecomesAt i (IsRaised M n) t u
    → version_at t j ≡ Some v → version_at u j ≡ Some w → w.project.features ≡ v.project.features
unfolding features_in
raised_features M n i t u j v w b g h =
    ap features_in (sym h) ∙ (ap (λ (x : Tree). features_in (version_at x j)) b.tree
    ∙ (features_at t i b.was b.is b.there (ap (λ (x : Version). x.project.features) b.changed.0) (Some j) ∙ ap features_in g))

-- ---- the version at a place, by what the place is
pub at_place : (t s : Tree) (i j : Place) (v : Version) → t ≡ s → i ≡ j → version_at t j ≡ Some v → version_at s i ≡ Some v
at_place t s i j v e f g = subst (λ (x : Tree). version_at x i ≡ Some v) e (subst (λ (k : Place). version_at t k ≡ Some v) (sym f) g)

pub is_at : (t : Tree) (i : Place) (v : Version) → version_at t i ≡ Some v → IsAt t i
is_at t Current v e = tt
is_at t (Other k) v e = slice_get_within t.others k v e

pub became_at : (P : Version → Version → Type 0) (i : Place) (t u : Tree) → (b : BecomesAt i P t u) → version_at u i ≡ Some b.is
became_at P i t u b = subst (λ (x : Tree). version_at x i ≡ Some b.is) (sym b.tree) (at_here t i b.was b.is b.there)

-- ---- after the raise
pub raised_nexts : (M : Meaning) (i : Place) (t u : Tree) → BecomesAt i (IsRaised M t.current.project.next) t u → (v : Version)
    → version_at u i ≡ Some v → u.current.project.next ≡ v.project.next
raised_nexts M Current t u b v e = (let s : u.current ≡ v = cc in ap (λ (x : Version). x.project.next) s)
raised_nexts M (Other k) t u b v e =
    let here = became_at (IsRaised M t.current.project.next) (Other k) t u b in
    let s : v ≡ b.is = cc in
    ap (λ (x : Tree). x.current.project.next) b.tree
    ∙ sym (ap (λ (x : Version). x.project.next) s ∙ ap (λ (x : Version). x.project.next) b.changed.0)

pub raised_root : (M : Meaning) (n : ℕ) (i : Place) (t u : Tree) → BecomesAt i (IsRaised M n) t u
    → (root_of u).features ≡ (root_of t).features
raised_root M n i t u b = root_features (IsRaised M n) i t u
    (λ v w p. (ap (λ (x : Version). x.name) p.0, ap (λ (x : Version). x.project.features) p.0)) b

pub raised_sets : (M : Meaning) (D : List Feature) (m n : ℕ) (v w : Version) → m ≡ n → IsRaised M n v w
    → LeavesProject (IsPartOf D) (raised_version m v) w
raised_sets M D m n v w e p =
    let same : w ≡ raised_version m v = p.0 ∙ ap (λ k. raised_version k v) (sym e) in
    record {
      project = (
        [],
        (λ k l. absurd (omega (arith, l))),
        record {
          front = [];
          rest = [];
          split = refl;
          sets = ap (λ (x : Version). x.project) same;
        },
      );
      name = ap (λ (x : Version). x.name) same;
      base = ap (λ (x : Version). x.base) same;
    }

-- ---- the whole reconcile
module _ (M : Meaning) (name : List ℕ) (i : Place) (t u s : Tree) (D : List Feature) (k : IsTree t) (f : place_of t name ≡ Some i)
    (same : D ≡ (root_of t).features) (a : BecomesAt i (IsRaised M t.current.project.next) t u) where
  great : greatest_next (all_of t) ≡ t.current.project.next
  great = greatest_current t k

  pub whole : (n : ℕ) (hs : List ℕ) (m : Merged) → m.taken ≡ n → m.conflicts ≡ hs → BecomesAt i (Merging M D (Some m)) u s
      → IsReconciled name n hs t s
  whole n hs m e h b = record {
    place = i;
    found = f;
    at = becomes_by _ _ i t s (λ v w y.
        let is : y.0 ≡ raised_version (greatest_next (all_of t)) v = y.1.0 ∙ ap (λ j. raised_version j v) (sym great) in
        let r : IsReconciledTo D m.taken m.conflicts y.0 w = y.2.0 in
        subst (λ (x : Version). IsReconciledTo (root_of t).features n hs x w) is (rw (← same, ← e, ← h) r))
        (both_become (IsRaised M t.current.project.next) (Merging M D (Some m)) i t u s a b);
  }

  pub raised_part : IsInPart name t u
  raised_part = record {
    place = i;
    found = f;
    at = becomes_by _ _ i t u
        (λ v w p. raised_sets M (root_of t).features (greatest_next (all_of t)) t.current.project.next v w great p) a;
  }

  pub stopped_part : BecomesAt i (Stopping M D) u s → IsInPart name t s
  stopped_part b = record {
    place = i;
    found = f;
    at = becomes_by _ _ i t s (λ v w y.
        let is : y.0 ≡ raised_version (greatest_next (all_of t)) v = y.1.0 ∙ ap (λ j. raised_version j v) (sym great) in
        let r : LeavesProject (IsPartOf D) y.0 w = y.2.0 in
        subst (λ (x : Version). LeavesProject (IsPartOf (root_of t).features) x w) is (rw (← same) r))
        (both_become (IsRaised M t.current.project.next) (Stopping M D) i t u s a b);
  }

-- ---- what is sound or settled stays so
pub raised_each : (Q : Project → Type 0) (M : Meaning) (n : ℕ) (i : Place) (t u : Tree) → ((v w : Version) → Keeps M v w → Q v.project → Q w.project)
    → BecomesAt i (IsRaised M n) t u → Each Q t → Each Q u
raised_each Q M n i t u f b e = becomes_each Q (IsRaised M n) i t u (λ v w p q. f v w p.1 q) b e

pub merged_each : {E : Type 0} (Q : Project → Type 0) (M : Meaning) (D : List Feature) (r : Result (Option Merged) E) (i : Place) (t u : Tree)
    → ((v w : Version) → Keeps M v w → Q v.project → Q w.project)
    → MatchResult r (λ o. BecomesAt i (Merging M D o) t u) (λ e. BecomesAt i (Stopping M D) t u) → Each Q t → Each Q u
merged_each Q M D (Ok o) i t u f b e = becomes_each Q (Merging M D o) i t u (λ v w p q. f v w p.1.keeps q) b e
merged_each Q M D (Err x) i t u f b e = becomes_each Q (Stopping M D) i t u (λ v w p q. f v w p.1.keeps q) b e

-- ---- a version with a base is not told to have none
pub has_one : (M : Meaning) (D : List Feature) (n : ℕ) (i : Place) (t u s : Tree) (v : Version) → version_at t i ≡ Some v → v.base ≢ None
    → BecomesAt i (IsRaised M n) t u → BecomesAt i (Merging M D None) u s → ⊥
has_one M D n i t u s v g some a b =
    let there = became_at (IsRaised M n) i t u a in
    let was = b.there in
    let same : b.was ≡ a.is = cc in
    let first = a.there in
    let own : a.was ≡ v = cc in
    some (sym (ap (λ (x : Version). x.base) (same ∙ (a.changed.0 ∙ ap (λ (x : Version). raised_version n x) own))) ∙ b.changed.0.0)

pub told_fault : {A E : Type 0} (r : Result A E) (x : E) (P : E → Type 0) → IsErrAnd r (λ e. e ≡ x) → P x → IfErr r P
told_fault (Ok a) x P e p = tt
told_fault (Err f) x P e p = subst P (sym e) p

pub not_none : {A B : Type 0} (o : Option A) (b : Option B) (look : A → B) → MatchOption o (b ≡ None) (λ s. b ≡ Some (look s))
    → is_some o ≡ true → b ≢ None
not_none None b look m e = λ n. cc
not_none (Some x) b look m e = λ n. cc

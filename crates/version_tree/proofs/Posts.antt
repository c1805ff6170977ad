-- A post is one of the tree.
use Rattle.std.proofs.Common.{◌≡◌, ℕ, List, Option, Some, None, Result, Ok, Err, false, refl, sym, ◌∙◌, ap, subst}
use Rattle.std.specs.Prelude.{slice_get, slice_set}
use Rattle.std.specs.Result.{IfOk, OnErr, MatchResult}
use Rattle.topology_terms.specs.Feature.{Feature}
use Rattle.topology_terms.specs.Meaning.{Meaning}
use Rattle.topology_terms.specs.Project.{Project}
use Rattle.version_terms.specs.declared.place.Place.{Place}
use Rattle.version_terms.specs.declared.place.Place.TheVariants.{Current, Other}
use Rattle.version_terms.specs.Versions.{Version, Tree, has_base, IsTree, IsAlike, IsAt, default_name, all_of, place_of, version_at, with_at}
use Rattle.version_terms.specs.VersionChanges.{BecomesAt, IsPosted, IsPostedTo, LeavesProject, IsPartOf, raised_version, based, greatest_next}
use Rattle.version_tree.specs.declared.fault.TreeFault.{TreeFault}
use Rattle.version_tree.specs.declared.fault.TreeFault.TheVariants as fault
use Rattle.version_tree.specs.Lists.{ChangesAt, Keeps, Moves}
use Rattle.version_tree.specs.Merges.{Posting, Stopping, HasFreshBase, IsUnfit}
use Rattle.version_tree.specs.Trees.{IsPostedInPart, IsPostFault}
use Rattle.version_tree.proofs.Keeping.{every_get, greatest_current, length_set}
use Rattle.version_tree.proofs.Becoming.{Each, IsRaised, current_becomes, other_becomes, other_keeps, becomes_each, at_alike}
use Rattle.version_tree.proofs.Merges.{still_alike, place_same, both_become, becomes_by, raised_sets}

-- ---- at an index
pub posted_in : {E : Type 0} (M : Meaning) (F : List Feature) (r : Result ℕ E) (xs : List Version) (k : ℕ) (v w : Version)
    → slice_get xs k ≡ Some v → IfOk r (λ n. LeavesProject (IsPostedTo F n) v w) → OnErr r (LeavesProject (IsPartOf F) v w) → Moves M v w
    → MatchResult r (λ n. ChangesAt k (Posting M F n) xs (slice_set xs k w)) (λ e. ChangesAt k (Stopping M F) xs (slice_set xs k w))
posted_in M F (Ok n) xs k v w g ok err m = record { was = v; is = w; there = g; changed = (ok, m); list = refl }
posted_in M F (Err e) xs k v w g ok err m = record { was = v; is = w; there = g; changed = (err, m); list = refl }

pub based_in : (F : List Feature) (xs : List Version) (k : ℕ) (v w : Version) → slice_get xs k ≡ Some v → w ≡ based F v
    → ChangesAt k (λ v w. w ≡ based F v) xs (slice_set xs k w)
based_in F xs k v w g e = record { was = v; is = w; there = g; changed = e; list = refl }

-- ---- at a place
pub posted_current : {E : Type 0} (M : Meaning) (F : List Feature) (r : Result ℕ E) (t : Tree) (w : Version)
    → IfOk r (λ n. LeavesProject (IsPostedTo F n) t.current w) → OnErr r (LeavesProject (IsPartOf F) t.current w) → Moves M t.current w
    → MatchResult r (λ n. BecomesAt Current (Posting M F n) t (record t { current = w }))
    (λ e. BecomesAt Current (Stopping M F) t (record t { current = w }))
posted_current M F (Ok n) t w ok err m = current_becomes (Posting M F n) t w (ok, m)
posted_current M F (Err e) t w ok err m = current_becomes (Stopping M F) t w (err, m)

pub posted_other : {E : Type 0} (M : Meaning) (F : List Feature) (r : Result ℕ E) (t : Tree) (k : ℕ) (ys : List Version)
    → MatchResult r (λ n. ChangesAt k (Posting M F n) t.others ys) (λ e. ChangesAt k (Stopping M F) t.others ys)
    → MatchResult r (λ n. BecomesAt (Other k) (Posting M F n) t (record t { others = ys }))
    (λ e. BecomesAt (Other k) (Stopping M F) t (record t { others = ys }))
posted_other M F (Ok n) t k ys c = other_becomes (Posting M F n) t k ys c
posted_other M F (Err e) t k ys c = other_becomes (Stopping M F) t k ys c

pub posted_keeps : {E : Type 0} (M : Meaning) (F : List Feature) (r : Result ℕ E) (t : Tree) (k : ℕ) (ys : List Version)
    → IsTree t → MatchResult r (λ n. ChangesAt k (Posting M F n) t.others ys) (λ e. ChangesAt k (Stopping M F) t.others ys)
    → IsTree (record t { others = ys })
posted_keeps M F (Ok n) t k ys i c = other_keeps (Posting M F n) t k ys i c c.changed.1.name
    (still_alike M t.current.project c.was c.is c.changed.1 (every_get (IsAlike t.current.project) t.others k c.was i.alike c.there))
posted_keeps M F (Err e) t k ys i c = other_keeps (Stopping M F) t k ys i c c.changed.1.name
    (still_alike M t.current.project c.was c.is c.changed.1 (every_get (IsAlike t.current.project) t.others k c.was i.alike c.there))

pub based_keeps : (F : List Feature) (t : Tree) (w : Version) → IsTree t → w ≡ based F t.current → IsTree (record t { current = w })
based_keeps F t w i e = rw e (record { few = i.few; root = i.root; alike = i.alike })

pub based_other_keeps : (F : List Feature) (t : Tree) (k : ℕ) (ys : List Version) → IsTree t
    → ChangesAt k (λ v w. w ≡ based F v) t.others ys → IsTree (record t { others = ys })
based_other_keeps F t k ys i c = other_keeps (λ v w. w ≡ based F v) t k ys i c (ap (λ (v : Version). v.name) c.changed)
    (let a = every_get (IsAlike t.current.project) t.others k c.was i.alike c.there in
    rw c.changed (record { classes = a.classes; rules = a.rules; next = a.next }))

-- ---- places stay
pub place_becomes : (P : Version → Version → Type 0) (i : Place) (t u : Tree) (name : List ℕ) → ((v w : Version) → P v w → w.name ≡ v.name)
    → BecomesAt i P t u → place_of u name ≡ place_of t name
place_becomes P i t u name f b =
    ap (λ (x : Tree). place_of x name) b.tree ∙ place_same t i b.was b.is name b.there (f b.was b.is b.changed)

at_with : (t : Tree) (i : Place) (w : Version) (j : Place) → IsAt t j → IsAt (with_at t i w) j
at_with t Current w Current h = tt
at_with t Current w (Other k) h = h
at_with t (Other n) w Current h = tt
at_with t (Other n) w (Other k) h = (let e = length_set t.others n w in rw e h)

pub at_becomes : (P : Version → Version → Type 0) (i : Place) (t u : Tree) (j : Place) → BecomesAt i P t u → IsAt t j → IsAt u j
at_becomes P i t u j b h = subst (λ (x : Tree). IsAt x j) (sym b.tree) (at_with t i b.is j h)

-- ---- it is given to `default`
pub same_classes : (t : Tree) (i j : Place) (v w : Version) → IsTree t → version_at t i ≡ Some v → version_at t j ≡ Some w
    → v.project.classes ≡ w.project.classes
same_classes t i j v w k g h = (at_alike t i v k g).classes ∙ sym (at_alike t j w k h).classes

-- ---- what is sound or settled stays so
pub posted_each : {E : Type 0} (Q : Project → Type 0) (M : Meaning) (F : List Feature) (r : Result ℕ E) (i : Place) (t u : Tree)
    → ((v w : Version) → Keeps M v w → Q v.project → Q w.project)
    → MatchResult r (λ n. BecomesAt i (Posting M F n) t u) (λ e. BecomesAt i (Stopping M F) t u) → Each Q t → Each Q u
posted_each Q M F (Ok n) i t u f b e = becomes_each Q (Posting M F n) i t u (λ v w p q. f v w p.1.keeps q) b e
posted_each Q M F (Err x) i t u f b e = becomes_each Q (Stopping M F) i t u (λ v w p q. f v w p.1.keeps q) b e

pub based_each : (Q : Project → Type 0) (F : List Feature) (i : Place) (t u : Tree) → BecomesAt i (λ v w. w ≡ based F v) t u → Each Q t
    → Each Q u
based_each Q F i t u b e = becomes_each Q (λ v w. w ≡ based F v) i t u
    (λ v w p q. subst Q (sym (ap (λ (x : Version). x.project) p)) q) b e

-- ---- why it is not posted
base_of_none : (v : Version) (o : Option Version) → o ≡ Some v → v.base ≡ None → has_base o ≡ false
base_of_none v o e n = rw (e, n) refl

pub unfit_fault : (name : List ℕ) (i : Place) (t : Tree) (x : TreeFault) → place_of t name ≡ Some i → IsUnfit i t x → IsPostFault name t t x
unfit_fault name i t fault.NoVersion f u = (rw f (base_of_none u.0 (version_at t i) u.1 u.2), refl)
unfit_fault name i t (fault.Stale h) f u = (
  record { version = u.version; there = rw f u.there; had = u.had; base = u.base; first = u.first },
  refl,
)
unfit_fault name i t fault.Taken f u = absurd u
unfit_fault name i t fault.Full f u = absurd u
unfit_fault name i t fault.NoMemory f u = absurd u

-- ---- the whole post
module _ (M : Meaning) (name : List ℕ) (i r : Place) (t u : Tree) (F : List Feature) (k : IsTree t) (f : place_of t name ≡ Some i)
    (d : place_of t default_name ≡ Some r) (fit : HasFreshBase i t) (same : F ≡ fit.version.project.features)
    (a : BecomesAt r (IsRaised M t.current.project.next) t u) where
  great : greatest_next (all_of t) ≡ t.current.project.next
  great = greatest_current t k

  raised_is : (v w : Version) → IsRaised M t.current.project.next v w → w ≡ raised_version (greatest_next (all_of t)) v
  raised_is v w p = p.0 ∙ ap (λ j. raised_version j v) (sym great)

  pub posted_whole : (n : ℕ) (m s : Tree) → BecomesAt r (Posting M F n) u m → BecomesAt i (λ v w. w ≡ based F v) m s → IsPosted name n t s
  posted_whole n m s b c = record {
    version = fit.version;
    there = rw f fit.there;
    had = fit.had;
    base_was = fit.base;
    fresh = fit.fresh;
    middle = m;
    root = record {
      place = r;
      found = d;
      at = becomes_by _ _ r t m (λ v w y.
          let is = raised_is v y.0 y.1 in
          let p : LeavesProject (IsPostedTo F n) y.0 w = y.2.0 in
          record {
            project = subst (λ (x : Version). IsPostedTo fit.version.project.features n x.project w.project) is (rw (← same) p.project);
            name = p.name ∙ ap (λ (x : Version). x.name) is;
            base = p.base ∙ ap (λ (x : Version). x.base) is;
          }) (both_become (IsRaised M t.current.project.next) (Posting M F n) r t u m a b);
    };
    base = record {
      place = i;
      found = place_becomes (Posting M F n) r u m name (λ v w p. p.1.name) b
          ∙ (place_becomes (IsRaised M t.current.project.next) r t u name (λ v w p. ap (λ (x : Version). x.name) p.0) a ∙ f);
      at = becomes_by _ _ i m s (λ v w e. e ∙ ap (λ (x : List Feature). based x v) same) c;
    };
  }

  pub raised_post : IsPostedInPart name t u
  raised_post = record {
    version = fit.version;
    there = rw f fit.there;
    root = record {
      place = r;
      found = d;
      at = becomes_by _ _ r t u
          (λ v w p. raised_sets M fit.version.project.features (greatest_next (all_of t)) t.current.project.next v w great p) a;
    };
  }

  pub stopped_post : (s : Tree) → BecomesAt r (Stopping M F) u s → IsPostedInPart name t s
  stopped_post s b = record {
    version = fit.version;
    there = rw f fit.there;
    root = record {
      place = r;
      found = d;
      at = becomes_by _ _ r t s (λ v w y.
          let p : LeavesProject (IsPartOf F) y.0 w = y.2.0 in
          subst (λ (x : Version). LeavesProject (IsPartOf fit.version.project.features) x w) (raised_is v y.0 y.1) (rw (← same) p))
          (both_become (IsRaised M t.current.project.next) (Stopping M F) r t u s a b);
    };
  }

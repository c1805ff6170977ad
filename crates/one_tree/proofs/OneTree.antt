-- What each line of versions makes of them is one thing.
use Rattle.std.proofs.Common.{◌≡◌, ◌≢◌, ◌⊎◌, inl, inr, ℕ, zero, suc, ◌<◌, ◌≤◌, List, [], ◌∷◌, length, Option, Some, None, refl, sym, ◌∙◌, ap, subst, arith}
use Rattle.std.specs.List.{Contains}
use Rattle.std.specs.List.Sorted.{IsStrictlyIncreasing}
use Rattle.plane_terms.specs.Lists.{Every}
use Rattle.plane_terms.specs.Rectangle.{Rectangle}
use Rattle.plane_terms.proofs.ListLemmas.{IsAmong, contains_among}
use Rattle.validation_laws.specs.Parts.{IsRising}
use Rattle.validation_laws.proofs.Handles.{among, below_each, rising}
use Rattle.topology_terms.specs.Changes.{IsFeatureSet, add_envelope}
use Rattle.topology_terms.specs.Entry.{Entry}
use Rattle.topology_terms.specs.Feature.{Class, Feature, feature_at, IsAscending}
use Rattle.topology_terms.specs.Project.{InForce, Project}
use Rattle.sound_laws.proofs.Edits.{same_or_not}
use Rattle.sound_laws.proofs.FeatureLists.{same_features}
use Rattle.version_terms.specs.Merge.{IsMerge, AreConflicts}
use Rattle.version_terms.specs.VersionChanges.{AreSet, IsSetTo, IsMergedInto, IsReconciledTo, IsPostedTo, IsFirstApart, Becomes, LeavesProject, IsCreated, IsGone, IsReconciled, IsPosted, IsStale, based, gone_to, greatest_next, raised, raised_version}
use Rattle.std.specs.Prelude.{slice_get, slice_set}
use Rattle.version_terms.specs.Versions.{Tree, Version, all_of, default_name, place_of, root_of, version_at, version_of, with_at}
use Rattle.version_terms.specs.declared.place.Place.{Place}
use Rattle.version_terms.specs.declared.place.Place.TheVariants.{Current, Other}
use Rattle.one_tree.proofs.Same.{not_apart}

-- ---- ascending lists of the same handles are one
one_paired : (xs ys : List ℕ) → IsRising xs → IsRising ys → ((h : ℕ) → IsAmong h xs → IsAmong h ys)
    → ((h : ℕ) → IsAmong h ys → IsAmong h xs) → xs ≡ ys
one_paired [] [] u v f g = refl
one_paired [] (y ∷ ys) u v f g = absurd (g y (inl refl))
one_paired (x ∷ xs) [] u v f g = absurd (f x (inl refl))
one_paired (x ∷ xs) (y ∷ ys) u v f g =
    let l : (h : ℕ) → IsAmong h xs → x < h = λ h m. below_each x h xs u.0 m in
    let k : (h : ℕ) → IsAmong h ys → y < h = λ h m. below_each y h ys v.0 m in
    let head : x ≡ y = elim (f x (inl refl)) [
      | inl e ↦ e
      | inr m ↦ elim (g y (inl refl)) [ inl e ↦ sym e | inr n ↦ let a = k x m in let b = l y n in absurd (omega (arith, a, b)) ]
    ] in
    let tail : xs ≡ ys = one_paired xs ys u.1 v.1
    (λ h m. elim (f h (inr m)) [ inl e ↦ let a = l h m in absurd (omega (arith, a, e, head)) | inr n ↦ n ])
    (λ h m. elim (g h (inr m)) [ inl e ↦ let a = k h m in absurd (omega (arith, a, e, head)) | inr n ↦ n ]) in
    cc

pub one_ascending : (xs ys : List ℕ) → IsStrictlyIncreasing xs → IsStrictlyIncreasing ys → ((h : ℕ) → Contains xs h → Contains ys h)
    → ((h : ℕ) → Contains ys h → Contains xs h) → xs ≡ ys
one_ascending xs ys u v f g = one_paired xs ys (rising xs u) (rising ys v)
    (λ h m. among h ys (f h (contains_among xs h m))) (λ h m. among h xs (g h (contains_among ys h m)))

-- ---- projects that only the list of features could tell apart
pub record AreLike (p q : Project) : Type 0 where
  pub lookups : (k : ℕ) → feature_at p.features k ≡ feature_at q.features k
  pub classes : p.classes ≡ q.classes
  pub rules : p.rules ≡ q.rules
  pub next : p.next ≡ q.next
  pub dirt : p.dirt ≡ q.dirt
  pub entries : p.entries ≡ q.entries

like_self : (p : Project) → AreLike p p
like_self p = record { lookups = λ k. refl; classes = refl; rules = refl; next = refl; dirt = refl; entries = refl }

like_set : (h : ℕ) (x : Option Feature) (p q m n : Project) → AreLike p q → IsFeatureSet h x p m → IsFeatureSet h x q n → AreLike m n
like_set h x p q m n l i j = record {
  lookups = λ k. elim (same_or_not k h) [
    | inl e ↦ rw e (i.edit.features.here ∙ sym j.edit.features.here)
    | inr d ↦ i.edit.features.others k d ∙ (l.lookups k ∙ sym (j.edit.features.others k d))
  ];
  classes = i.edit.classes ∙ (l.classes ∙ sym j.edit.classes);
  rules = i.edit.rules ∙ (l.rules ∙ sym j.edit.rules);
  next = i.next ∙ (l.next ∙ sym j.next);
  dirt = i.edit.dirt ∙ (ap (λ (d : List Rectangle). add_envelope (add_envelope d (feature_at p.features h)) x) l.dirt
      ∙ (ap (λ (o : Option Feature). add_envelope (add_envelope q.dirt o) x) (l.lookups h) ∙ sym j.edit.dirt));
  entries = i.edit.entries ∙ (l.entries ∙ sym j.edit.entries);
}

like_sets : (F : List Feature) (hs : List ℕ) (p q m n : Project) → AreLike p q → AreSet F hs p m → AreSet F hs q n → AreLike m n
like_sets F [] p q m n l s t = rw (s, t) l
like_sets F (h ∷ hs) p q m n l s t = like_sets F hs s.0 t.0 m n (like_set h (feature_at F h) p q s.0 t.0 l s.1 t.1) s.2 t.2

project_of : List Class → List InForce → List Feature → ℕ → List Rectangle → List Entry → Project
project_of cs rs F n d es = record { classes = cs; rules = rs; features = F; next = n; dirt = d; entries = es }

like_same : (p q : Project) → p.features ≡ q.features → AreLike p q → p ≡ q
like_same p q f l =
    let e : record { classes = p.classes; rules = p.rules; features = p.features; next = p.next; dirt = p.dirt; entries = p.entries } ≡ q =
    rw (l.classes, l.rules, f, l.next, l.dirt, l.entries) refl in
    e

pub one_set : (F : List Feature) (m n : ℕ) (p q r : Project) → q.features ≡ r.features → IsSetTo F m p q → IsSetTo F n p r
    → (m ≡ n) × (q ≡ r)
one_set F m n p q r f i j =
    let same : i.handles ≡ j.handles = one_ascending i.handles j.handles i.ascending j.ascending (λ h c. (j.exact h).1 ((i.exact h).0 c))
    (λ h c. (i.exact h).1 ((j.exact h).0 c)) in (
      i.count ∙ (ap length same ∙ sym j.count),
      like_same q r f (like_sets F j.handles p p q r (like_self p) (subst (λ (hs : List ℕ). AreSet F hs p q) same i.sets) j.sets),
    )

-- ---- the merge is one
pub one_merge : (B D V F G : List Feature) → IsAscending F → IsAscending G → IsMerge B D V F → IsMerge B D V G → F ≡ G
one_merge B D V F G u v i j = same_features F G u v (λ h. not_apart (feature_at F h) (feature_at G h) (λ d.
    let t : feature_at V h ≢ feature_at B h = λ e. d ((i h).untouched e ∙ sym ((j h).untouched e)) in
    d ((i h).touched t ∙ sym ((j h).touched t))))

pub one_merged : (B D : List Feature) (m n : ℕ) (hs ks : List ℕ) (p q r : Project) → IsAscending q.features → IsAscending r.features
    → IsMergedInto B D m hs p q → IsMergedInto B D n ks p r → (m ≡ n) × (hs ≡ ks) × (q ≡ r)
one_merged B D m n hs ks p q r u v i j =
    let f : q.features ≡ r.features = one_merge B D p.features q.features r.features u v i.merged j.merged in
    let set = one_set r.features m n p q r f (subst (λ (F : List Feature). IsSetTo F m p q) f i.set) j.set in (
      set.0,
      one_ascending hs ks i.named.ascending j.named.ascending (λ h c. (j.named.exact h).1 ((i.named.exact h).0 c))
          (λ h c. (i.named.exact h).1 ((j.named.exact h).0 c)),
      set.1,
    )

some_one : {A : Type 0} (o : Option A) (x y : A) → o ≡ Some x → o ≡ Some y → x ≡ y
some_one o x y i j = let e : Some x ≡ Some y = sym i ∙ j in cc

version_same : (v w : Version) → v.name ≡ w.name → v.project ≡ w.project → v.base ≡ w.base → v ≡ w
version_same v w n p b =
    let e : record { name = v.name; project = v.project; base = v.base } ≡ w = rw (n, p, b) refl in e

pub one_reconciled : (D : List Feature) (m n : ℕ) (hs ks : List ℕ) (v w x : Version) → IsAscending w.project.features
    → IsAscending x.project.features → IsReconciledTo D m hs v w → IsReconciledTo D n ks v x → (m ≡ n) × (hs ≡ ks) × (w ≡ x)
one_reconciled D m n hs ks v w x a b i j =
    let had : i.had ≡ j.had = some_one v.base i.had j.had i.base j.base in
    let one = one_merged j.had D m n hs ks v.project w.project x.project a b
    (subst (λ (B : List Feature). IsMergedInto B D m hs v.project w.project) had i.merge) j.merge in
    (one.0, one.1, version_same w x (i.name ∙ sym j.name) one.2 (i.new_base ∙ sym j.new_base))

pub one_post : (F : List Feature) (m n : ℕ) (p q r : Project) → IsPostedTo F m p q → IsPostedTo F n p r → (m ≡ n) × (q ≡ r)
one_post F m n p q r i j = one_set F m n p q r (i.features ∙ sym j.features) i.set j.set

-- ---- the first handle at which two maps differ
pub one_first : (F G : List Feature) (h k : ℕ) → IsFirstApart F G (Some h) → IsFirstApart F G (Some k) → h ≡ k
one_first F G h k i j = elim (less_or_more h k) [
  | inl l ↦ absurd (i.0 (j.1 h l))
  | inr d ↦ elim d [ inl l ↦ absurd (j.0 (i.1 k l)) | inr e ↦ e ]
]
  where
    less_or_more : (m n : ℕ) → (m < n) ⊎ ((n < m) ⊎ (m ≡ n))
    less_or_more m n = grind arith

-- ---- one version becomes one thing
record SameStart (P Q : Version → Version → Type 0) (name : List ℕ) (s t u : Tree) (i : Becomes name P s t) (j : Becomes name Q s u) : Type 0
  where
    pub place : i.place ≡ j.place
    pub was : i.at.was ≡ j.at.was

same_start : (P Q : Version → Version → Type 0) (name : List ℕ) (s t u : Tree) (i : Becomes name P s t) (j : Becomes name Q s u)
    → SameStart P Q name s t u i j
same_start P Q name s t u i j =
    let place : i.place ≡ j.place = some_one (place_of s name) i.place j.place i.found j.found in
    record {
      place = place;
      was = some_one (version_at s j.place) i.at.was j.at.was (subst (λ (k : Place). version_at s k ≡ Some i.at.was) place i.at.there)
          j.at.there;
    }

becomes_same : (P Q : Version → Version → Type 0) (name : List ℕ) (s t u : Tree) (i : Becomes name P s t) (j : Becomes name Q s u)
    → i.at.is ≡ j.at.is → t ≡ u
becomes_same P Q name s t u i j e =
    let l = same_start P Q name s t u i j in
    i.at.tree ∙ (ap (λ (k : Place). with_at s k i.at.is) l.place ∙ (ap (λ (w : Version). with_at s j.place w) e ∙ sym j.at.tree))

get_set : (xs : List Version) (k : ℕ) (v w : Version) → slice_get xs k ≡ Some v → slice_get (slice_set xs k w) k ≡ Some w
get_set [] k v w e = cc
get_set (x ∷ xs) zero v w e = refl
get_set (x ∷ xs) (suc k) v w e = get_set xs k v w e

every_get : (P : Version → Type 0) (xs : List Version) (k : ℕ) (v : Version) → Every P xs → slice_get xs k ≡ Some v → P v
every_get P [] k v e g = cc
every_get P (x ∷ xs) zero v e g = (let s : x ≡ v = cc in subst P s e.0)
every_get P (x ∷ xs) (suc k) v e g = every_get P xs k v e.1 g

-- what each version has, the one that changed has
is_has : (P : Version → Type 0) (s : Tree) (i : Place) (v w : Version) → version_at s i ≡ Some v → Every P (all_of (with_at s i w)) → P w
is_has P s Current v w g e = e.0
is_has P s (Other k) v w g e = every_get P (slice_set s.others k w) k w e.1 (get_set s.others k v w g)

abbrev AreAscending : Tree → Type 0
AreAscending t = Every (λ (v : Version). IsAscending v.project.features) (all_of t)

becomes_has : (P : Version → Version → Type 0) (name : List ℕ) (s t : Tree) (i : Becomes name P s t) → AreAscending t
    → IsAscending i.at.is.project.features
becomes_has P name s t i a = is_has (λ (v : Version). IsAscending v.project.features) s i.place i.at.was i.at.is i.at.there
    (subst AreAscending i.at.tree a)

pub one_reconcile : (name : List ℕ) (m n : ℕ) (hs ks : List ℕ) (s t u : Tree) → AreAscending t → AreAscending u
    → IsReconciled name m hs s t → IsReconciled name n ks s u → (m ≡ n) × (hs ≡ ks) × (t ≡ u)
one_reconcile name m n hs ks s t u a b i j =
    let D = (root_of s).features in
    let g = greatest_next (all_of s) in
    let l = same_start _ _ name s t u i j in
    let one = one_reconciled D m n hs ks (raised_version g j.at.was) i.at.is j.at.is (becomes_has _ name s t i a) (becomes_has _ name s u j b)
    (subst (λ (v : Version). IsReconciledTo D m hs (raised_version g v) i.at.is) l.was i.at.changed) j.at.changed in
    (one.0, one.1, becomes_same _ _ name s t u i j one.2)

pub one_create : (name : List ℕ) (s t u : Tree) → IsCreated name s t → IsCreated name s u → t ≡ u
one_create name s t u i j =
    let e : record { current = t.current; others = t.others } ≡ u =
    rw (i.current ∙ sym j.current, i.others ∙ sym j.others) refl in
    e

pub one_go : (name : List ℕ) (s t u : Tree) → IsGone name s t → IsGone name s u → t ≡ u
one_go name s t u i j =
    let place : i.place ≡ j.place = some_one (place_of s name) i.place j.place i.found j.found in
    let was : i.was ≡ j.was = some_one (version_at s j.place) i.was j.was (subst (λ (k : Place). version_at s k ≡ Some i.was) place i.there)
    j.there in
    let g = greatest_next (all_of s) in
    i.tree ∙ (ap (λ (k : Place). gone_to s k (raised_version g i.was)) place
    ∙ (ap (λ (v : Version). gone_to s j.place (raised_version g v)) was ∙ sym j.tree))

pub one_posting : (name : List ℕ) (m n : ℕ) (s t u : Tree) → IsPosted name m s t → IsPosted name n s u → (m ≡ n) × (t ≡ u)
one_posting name m n s t u i j =
    let version : i.version ≡ j.version = some_one (version_of s name) i.version j.version i.there j.there in
    let F = j.version.project.features in
    let g = greatest_next (all_of s) in
    let P : ℕ → Version → Version → Type 0 = λ k. LeavesProject (λ p q. IsPostedTo F k (raised g p) q) in
    let root : Becomes default_name (P m) s i.middle = subst
    (λ (v : Version). Becomes default_name (LeavesProject (λ p q. IsPostedTo v.project.features m (raised g p) q)) s i.middle) version i.root in
    let base : Becomes name (λ v w. w ≡ based F v) i.middle t = subst
    (λ (v : Version). Becomes name (λ x w. w ≡ based v.project.features x) i.middle t) version i.base in
    let l = same_start (P m) (P n) default_name s i.middle j.middle root j.root in
    let first = subst (λ (v : Version). P m v root.at.is) l.was root.at.changed in
    let second = j.root.at.changed in
    let one = one_post F m n (raised g j.root.at.was.project) root.at.is.project j.root.at.is.project first.project second.project in
    let is = version_same root.at.is j.root.at.is (first.name ∙ sym second.name) one.1 (first.base ∙ sym second.base) in
    let middle : i.middle ≡ j.middle = becomes_same (P m) (P n) default_name s i.middle j.middle root j.root is in
    let over = subst (λ (x : Tree). Becomes name (λ v w. w ≡ based F v) x t) middle base in
    let k = same_start _ _ name j.middle t u over j.base in
    (one.0, becomes_same _ _ name j.middle t u over j.base (over.at.changed ∙ (ap (based F) k.was ∙ sym j.base.at.changed)))

pub one_stale : (name : List ℕ) (h k : ℕ) (s : Tree) → IsStale name h s → IsStale name k s → h ≡ k
one_stale name h k s i j =
    let version : i.version ≡ j.version = some_one (version_of s name) i.version j.version i.there j.there in
    let had : i.had ≡ j.had = some_one j.version.base i.had j.had (subst (λ (v : Version). v.base ≡ Some i.had) version i.base) j.base in
    one_first j.had (root_of s).features h k (subst (λ (B : List Feature). IsFirstApart B (root_of s).features (Some h)) had i.first) j.first

pub not_both : (name : List ℕ) (h n : ℕ) (s t : Tree) → IsStale name h s → IsPosted name n s t → ⊥
not_both name h n s t i j =
    let version : i.version ≡ j.version = some_one (version_of s name) i.version j.version i.there j.there in
    let had : i.had ≡ j.had = some_one j.version.base i.had j.had (subst (λ (v : Version). v.base ≡ Some i.had) version i.base) j.base_was in
    let first = subst (λ (B : List Feature). IsFirstApart B (root_of s).features (Some h)) had i.first in
    first.0 (j.fresh h)

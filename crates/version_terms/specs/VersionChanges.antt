-- What each call makes of versions. What is not named stays.
--
-- AreSet F hs old new    the features at these handles become those of F, one edit after another
-- AreSetInPart           at the first ones of these handles they did
-- IsPartOf F old new     at the first ones of some handles, ascending
-- IsSetTo F n old new    all features become those of F: at each of the n handles at which they differ, ascending
-- raised n p             the project with the next handle n
-- greatest_next vs       the greatest of the versions' next handles
-- IsMergedInto B D n hs p q    the features of p became their merge with D over the base B; n of them changed, and hs are the conflicts
-- IsReconciledTo D n hs v w    so it is of the version v, which became w, and its base is D
-- IsPostedTo F n p q     the project of `default` has the features F, n of them changed
-- Becomes name P old new the version of this name changes by P, and no other; BecomesAt: that at a place
-- IsCreated, IsGone, IsReconciled, IsPosted    what `version`, `in`, `reconcile` and `post` leave
-- IsAside old new        the name and the base of the current version stay, and so do the others; waits for the calls of a version
-- IsFresh B D            the base is what `default` has, so the version may be posted
-- IsFirstApart F G o     the least handle at which the features differ, or none
-- IsStale name h t       the base of the version and `default` differ, at the handle h first, so it is not posted
use Rattle.std.specs.Prelude.{◌≡◌, ◌≢◌, ◌↔◌, ℕ, ◌<◌, List, [], ◌∷◌, ◌++◌, length, Option, Some, None, Contains, slice_set, max}
use Rattle.std.specs.List.Sorted.{IsStrictlyIncreasing}
use Rattle.topology_terms.specs.Feature.{Feature, feature_at}
use Rattle.topology_terms.specs.Project.{Project}
use Rattle.topology_terms.specs.Changes.{IsFeatureSet}
use Rattle.version_terms.specs.Merge.{IsMerge, AreConflicts}
use Rattle.version_terms.specs.Versions.{Version, Tree, default_name, all_of, place_of, version_at, with_at, version_of, root_of}
use Rattle.version_terms.specs.declared.place.Place.{Place}
use Rattle.version_terms.specs.declared.place.Place.TheVariants.{Current, Other}

-- ---- features, handle by handle
abbrev pub AreSet : List Feature → List ℕ → Project → Project → Type 0
AreSet F [] old new = new ≡ old
AreSet F (h ∷ hs) old new = (middle : Project) × IsFeatureSet h (feature_at F h) old middle × AreSet F hs middle new

pub record AreSetInPart (F : List Feature) (handles : List ℕ) (old new : Project) : Type 0 where
  pub front : List ℕ
  pub rest : List ℕ
  pub split : handles ≡ front ++ rest
  pub sets : AreSet F front old new

-- at some handles the project has been given what F has
abbrev pub IsPartOf : List Feature → Project → Project → Type 0
IsPartOf F old new = (handles : List ℕ) × IsStrictlyIncreasing handles × AreSetInPart F handles old new

pub record IsSetTo (F : List Feature) (n : ℕ) (old new : Project) : Type 0 where
  pub handles : List ℕ
  pub ascending : IsStrictlyIncreasing handles
  pub exact : (h : ℕ) → Contains handles h ↔ (feature_at old.features h ≢ feature_at F h)
  pub sets : AreSet F handles old new
  pub count : n ≡ length handles

abbrev pub raised : ℕ → Project → Project
raised n p = record p { next = n }

abbrev pub greatest_next : List Version → ℕ
greatest_next [] = 0
greatest_next (v ∷ vs) = max v.project.next (greatest_next vs)

-- ---- one version
pub record IsMergedInto (B D : List Feature) (n : ℕ) (conflicts : List ℕ) (p q : Project) : Type 0 where
  pub merged : IsMerge B D p.features q.features
  pub set : IsSetTo q.features n p q
  pub named : AreConflicts B D p.features conflicts

pub record IsReconciledTo (D : List Feature) (n : ℕ) (conflicts : List ℕ) (v w : Version) : Type 0 where
  pub had : List Feature
  pub base : v.base ≡ Some had
  pub merge : IsMergedInto had D n conflicts v.project w.project
  pub name : w.name ≡ v.name
  pub new_base : w.base ≡ Some D

pub record IsPostedTo (F : List Feature) (n : ℕ) (p q : Project) : Type 0 where
  pub set : IsSetTo F n p q
  pub features : q.features ≡ F

-- ---- all versions
pub record BecomesAt (i : Place) (P : Version → Version → Type 0) (old new : Tree) : Type 0 where
  pub was : Version
  pub is : Version
  pub there : version_at old i ≡ Some was
  pub changed : P was is
  pub tree : new ≡ with_at old i is

pub record Becomes (name : List ℕ) (P : Version → Version → Type 0) (old new : Tree) : Type 0 where
  pub place : Place
  pub found : place_of old name ≡ Some place
  pub at : BecomesAt place P old new

pub record LeavesProject (P : Project → Project → Type 0) (v w : Version) : Type 0 where
  pub project : P v.project w.project
  pub name : w.name ≡ v.name
  pub base : w.base ≡ v.base

-- what stands beside the project of the current version stays
pub record IsAside (old new : Tree) : Type 0 where
  pub name : new.current.name ≡ old.current.name
  pub base : new.current.base ≡ old.current.base
  pub others : new.others ≡ old.others

pub record IsCreated (name : List ℕ) (old new : Tree) : Type 0 where
  pub free : place_of old name ≡ None
  pub few : length old.others ≢ 8
  pub current : new.current ≡ old.current
  pub others : new.others ≡ old.others ++ record { name = name; project = root_of old; base = Some (root_of old).features } ∷ []

abbrev pub raised_version : ℕ → Version → Version
raised_version n v = record v { project = raised n v.project }

-- the current version stands where the other stood
abbrev pub gone_to : Tree → Place → Version → Tree
gone_to t Current v = record t { current = v }
gone_to t (Other k) v = record { current = v; others = slice_set t.others k t.current }

pub record IsGone (name : List ℕ) (old new : Tree) : Type 0 where
  pub place : Place
  pub was : Version
  pub found : place_of old name ≡ Some place
  pub there : version_at old place ≡ Some was
  pub tree : new ≡ gone_to old place (raised_version (greatest_next (all_of old)) was)

abbrev pub IsReconciled : List ℕ → ℕ → List ℕ → Tree → Tree → Type 0
IsReconciled name n conflicts old new =
    Becomes name (λ v w. IsReconciledTo (root_of old).features n conflicts (raised_version (greatest_next (all_of old)) v) w) old new

-- the version of this name, whose features are now those of `default`, has them as its base
abbrev pub based : List Feature → Version → Version
based D v = record v { base = Some D }

-- the base is what `default` has, at each handle
abbrev pub IsFresh : List Feature → List Feature → Type 0
IsFresh B D = (h : ℕ) → feature_at B h ≡ feature_at D h

abbrev pub IsFirstApart : List Feature → List Feature → Option ℕ → Type 0
IsFirstApart F G None = (k : ℕ) → feature_at F k ≡ feature_at G k
IsFirstApart F G (Some h) = (feature_at F h ≢ feature_at G h) × ((k : ℕ) → k < h → feature_at F k ≡ feature_at G k)

-- the base of the version and `default` differ, at this handle first
pub record IsStale (name : List ℕ) (h : ℕ) (t : Tree) : Type 0 where
  pub version : Version
  pub there : version_of t name ≡ Some version
  pub had : List Feature
  pub base : version.base ≡ Some had
  pub first : IsFirstApart had (root_of t).features (Some h)

pub record IsPosted (name : List ℕ) (n : ℕ) (old new : Tree) : Type 0 where
  pub version : Version
  pub there : version_of old name ≡ Some version
  pub had : List Feature
  pub base_was : version.base ≡ Some had
  pub fresh : IsFresh had (root_of old).features
  pub middle : Tree
  pub root : Becomes default_name (LeavesProject (λ p q. IsPostedTo version.project.features n (raised (greatest_next (all_of old)) p) q))
      old middle
  pub base : Becomes name (λ v w. w ≡ based version.project.features v) middle new

-- What a reconcile of one version, or a post, answers.
--
-- SaysMerged D o v w     the version had no base, and stays; or it was reconciled with the features D, as o says
-- Merging, Posting, Stopping     that, a post of n handles, a call that ran out of memory; and what is kept is kept
-- HasFreshBase i t       the version at this place has a base, which is what `default` has
-- IsUnfit i t e          it has none; or its base and `default` differ, at this handle first
use Rattle.std.specs.Prelude.{◌≡◌, ℕ, List, Option, Some, None}
use Rattle.topology_terms.specs.Feature.{Feature}
use Rattle.topology_terms.specs.Meaning.{Meaning}
use Rattle.version_terms.specs.declared.place.Place.{Place}
use Rattle.version_terms.specs.Versions.{Version, Tree, version_at, root_of}
use Rattle.version_terms.specs.VersionChanges.{IsReconciledTo, IsPostedTo, IsPartOf, IsFresh, LeavesProject}
use Rattle.version_terms.specs.VersionChanges.{IsFirstApart}
use Rattle.version_tree.specs.Lists.{Moves}
use Rattle.version_tree.specs.declared.version.Merged.{Merged}
use Rattle.version_tree.specs.declared.fault.TreeFault.{TreeFault}
use Rattle.version_tree.specs.declared.fault.TreeFault.TheVariants as fault

abbrev pub SaysMerged : List Feature → Option Merged → Version → Version → Type 0
SaysMerged D None v w = (v.base ≡ None) × (w ≡ v)
SaysMerged D (Some m) v w = IsReconciledTo D m.taken m.conflicts v w

abbrev pub Merging : Meaning → List Feature → Option Merged → Version → Version → Type 0
Merging M D o v w = SaysMerged D o v w × Moves M v w

abbrev pub Posting : Meaning → List Feature → ℕ → Version → Version → Type 0
Posting M F n v w = LeavesProject (IsPostedTo F n) v w × Moves M v w

abbrev pub Stopping : Meaning → List Feature → Version → Version → Type 0
Stopping M D v w = LeavesProject (IsPartOf D) v w × Moves M v w

pub record HasFreshBase (i : Place) (t : Tree) : Type 0 where
  pub version : Version
  pub there : version_at t i ≡ Some version
  pub had : List Feature
  pub base : version.base ≡ Some had
  pub fresh : IsFresh had (root_of t).features

pub record IsStaleAt (i : Place) (h : ℕ) (t : Tree) : Type 0 where
  pub version : Version
  pub there : version_at t i ≡ Some version
  pub had : List Feature
  pub base : version.base ≡ Some had
  pub first : IsFirstApart had (root_of t).features (Some h)

abbrev pub IsUnfit : Place → Tree → TreeFault → Type 0
IsUnfit i t fault.NoVersion = (v : Version) × (version_at t i ≡ Some v) × (v.base ≡ None)
IsUnfit i t (fault.Stale h) = IsStaleAt i h t
IsUnfit i t other = ⊥

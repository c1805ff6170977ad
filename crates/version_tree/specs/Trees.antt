-- What a tree of versions answers.
--
-- AreLawful vs    each of these versions is what a topology keeps, its lists in order
-- AreSound M t, AreSettled M t     so is each version
-- IsCreateFault, IsGoFault, IsReconcileFault, IsPostFault     why a call was refused
-- IsInPart, IsPostedInPart  a reconcile, a post that ran out of memory: some handles were set, ascending, and the bases stay
use Rattle.std.specs.Prelude.{◌≡◌, ◌≢◌, ℕ, List, length, false, Some, None}
use Rattle.plane_terms.specs.Lists.{Every}
use Rattle.topology_terms.specs.Meaning.{Meaning}
use Rattle.topology_terms.specs.Project.{IsOrdered}
use Rattle.topo_core.specs.Topologies.{IsTopology}
use Rattle.topology_terms.specs.Settled.{IsSettledUnder}
use Rattle.topology_terms.specs.Sound.{IsSoundUnder}
use Rattle.version_terms.specs.Versions.{Version, Tree, has_base, default_name, all_of, place_of, version_of, root_of}
use Rattle.version_terms.specs.VersionChanges.{Becomes, LeavesProject, IsPartOf, IsStale, raised_version, greatest_next}
use Rattle.version_tree.specs.declared.fault.TreeFault.{TreeFault}
use Rattle.version_tree.specs.declared.fault.TreeFault.TheVariants as fault

abbrev pub AreLawful : List Version → Type 0
AreLawful vs = Every (λ (v : Version). IsTopology v.project × IsOrdered v.project) vs

abbrev pub AreSound : Meaning → Tree → Type 0
AreSound M t = Every (λ (v : Version). IsSoundUnder M v.project) (all_of t)

abbrev pub AreSettled : Meaning → Tree → Type 0
AreSettled M t = Every (λ (v : Version). IsSettledUnder M v.project) (all_of t)

abbrev pub IsCreateFault : List ℕ → Tree → TreeFault → Type 0
IsCreateFault name t fault.Taken = place_of t name ≢ None
IsCreateFault name t fault.Full = (place_of t name ≡ None) × (length t.others ≡ 8)
IsCreateFault name t fault.NoMemory = Unit {0}
IsCreateFault name t other = ⊥

abbrev pub IsGoFault : List ℕ → Tree → TreeFault → Type 0
IsGoFault name t fault.NoVersion = place_of t name ≡ None
IsGoFault name t other = ⊥

-- the version of this name was raised, and has been changed in part
abbrev pub IsInPart : List ℕ → Tree → Tree → Type 0
IsInPart name old new =
    Becomes name (λ v w. LeavesProject (IsPartOf (root_of old).features) (raised_version (greatest_next (all_of old)) v) w) old new

abbrev pub IsReconcileFault : List ℕ → Tree → Tree → TreeFault → Type 0
IsReconcileFault name old new fault.NoVersion = (has_base (version_of old name) ≡ false) × (new ≡ old)
IsReconcileFault name old new fault.NoMemory = IsInPart name old new
IsReconcileFault name old new other = ⊥

pub record IsPostedInPart (name : List ℕ) (old new : Tree) : Type 0 where
  pub version : Version
  pub there : version_of old name ≡ Some version
  pub root : Becomes default_name (λ v w. LeavesProject (IsPartOf version.project.features) (raised_version (greatest_next (all_of old)) v) w)
      old new

abbrev pub IsPostFault : List ℕ → Tree → Tree → TreeFault → Type 0
IsPostFault name old new fault.NoVersion = (has_base (version_of old name) ≡ false) × (new ≡ old)
IsPostFault name old new (fault.Stale h) = IsStale name h old × (new ≡ old)
IsPostFault name old new fault.NoMemory = IsPostedInPart name old new
IsPostFault name old new other = ⊥

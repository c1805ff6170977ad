use Rattle.std.proofs.Common.{Contains, sym, subst}
use Rattle.topology_terms.specs.Feature.{Feature}
use Rattle.topology_terms.specs.Project.{Project}
use Rattle.project_terms.specs.Records.{IsRecord}
use Rattle.sound_laws.proofs.FeatureLists.{live_each}
use Rattle.validation.specs.Placed.{placed_of}
use Rattle.topo_core.specs.Topologies.{project_of}
use Rattle.topo_core.proofs.Saved.{record_topology}
use Rattle.topo_core.proofs.Live.{put_live}
use Rattle.topo_core.proofs.topology.Topology.from_data.Goals as goal

pub invariant_of-result : goal.invariant_of-result
invariant_of-result g c =
    let s = c.saved.inside in
    let index = c.in_ok-index.index in
    let p : Project = project_of s.store s.rules.items s.dirt s.errors in
    record {
      topology = record_topology p c.store_law.ensures (rw (c.slots.ensures, c.features.ensures.value) at c.in_ok-index.ensures.on_grid)
          (subst IsRecord (sym c.saved.view_is) c.requires);
      placed = λ h f e. live_each (λ (k : Feature). Contains index (placed_of k)) s.store.features h f
          (rw (c.slots.ensures, c.features.ensures.value) at c.in_ok-index.ensures.there) e;
      live = put_live index s.store.features c.store_law.ensures.ascending
          (rw (c.slots.ensures, c.features.ensures.value) at c.in_ok-index.ensures.only);
    }

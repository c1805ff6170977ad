use Rattle.std.proofs.Common.{arith, subst}
use Rattle.topology_terms.specs.Project.{Project}
use Rattle.project_terms.specs.Records.{IsRecord}
use Rattle.topo_core.specs.Topologies.{project_of}
use Rattle.topo_core.proofs.Records.{topology_record}
use Rattle.topo_core.proofs.topology.Topology.record_law.Goals as goal

pub returns : goal.returns
returns g c =
    let t = c.self.inside in
    let p : Project = project_of t.store t.rules.items t.dirt t.entries in
    subst IsRecord c.self.view_is (topology_record p c.self.invariant.topology (omega arith) c.names_law.ensures
    (rw (c.slots.ensures, c.features.ensures.value) at c.slots_law.ensures) (rw c.deref.ensures.value at c.rules_law.ensures) c.loose_law.ensures c.errors_law.ensures)

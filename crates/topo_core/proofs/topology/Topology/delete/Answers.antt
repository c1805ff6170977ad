use Rattle.std.proofs.Common.{subst, ◌<◌}
use Rattle.topology_terms.specs.Project.{Project}
use Rattle.topo_core.proofs.Exchanges.{live_given, live_some}
use Rattle.topo_core.proofs.topology.Topology.delete.Goals as goal

pub swap-requires-clause-from_1 : goal.swap-requires-clause-from_1
swap-requires-clause-from_1 g c =
    let l = live_some c.get.result _ _ c.get.ensures c.if-is_none.ensures in
    (live_given _ c.self.invariant.topology c.args.handle l.0.now l.1).0

pub swap-requires-clause-given : goal.swap-requires-clause-given
swap-requires-clause-given g c =
    let l = live_some c.get.result _ _ c.get.ensures c.if-is_none.ensures in
    subst (λ (q : Project). c.args.handle < q.next) c.self.view_is (live_given _ c.self.invariant.topology c.args.handle l.0.now l.1).1

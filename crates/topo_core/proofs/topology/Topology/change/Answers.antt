use Rattle.std.proofs.Common.{subst, ◌<◌}
use Rattle.topology_terms.specs.Project.{Project, IsOrdered}
use Rattle.feature_store.specs.Keeps.{IsOfClass}
use Rattle.topo_core.proofs.Exchanges.{live_given, other_shape}
use Rattle.topo_core.proofs.Whole.{ordered}
use Rattle.topo_core.proofs.topology.Topology.change.Goals as goal

pub swap-requires-clause-from_1 : goal.swap-requires-clause-from_1
swap-requires-clause-from_1 g c = (live_given _ c.self.invariant.topology c.args.handle c.in-Some.feature.now c.in-Some.ensures).0

pub swap-requires-clause-given : goal.swap-requires-clause-given
swap-requires-clause-given g c = subst (λ (q : Project). c.args.handle < q.next) c.self.view_is
    (live_given _ c.self.invariant.topology c.args.handle c.in-Some.feature.now c.in-Some.ensures).1

pub swap-requires-clause-fits : goal.swap-requires-clause-fits
swap-requires-clause-fits g c = subst (λ (q : Project). IsOfClass q.classes c.typed.result) c.self.view_is
    (rw c.typed.ensures (other_shape _ c.self.invariant.topology c.args.handle c.class-class.result c.subtype-subtype.result c.in-Some.feature.now c.args.shape
    c.in-Some.ensures c.class-class.ensures (c.has_other_kind.ensures.same c.if-has_other_kind.false)))

pub returns-then-has_other_kind-clause-ordered : goal.returns-then-has_other_kind-clause-ordered
returns-then-has_other_kind-clause-ordered g c = subst IsOrdered c.self.view_is (ordered _ c.self.invariant.topology)

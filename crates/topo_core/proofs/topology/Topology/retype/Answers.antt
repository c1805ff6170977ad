use Rattle.std.proofs.Common.{◌≡◌, subst, ◌<◌}
use Rattle.topology_terms.specs.Project.{Project}
use Rattle.sound_laws.proofs.FeatureLists.{handle_of}
use Rattle.feature_store.specs.Keeps.{IsOfClass}
use Rattle.topo_core.proofs.Exchanges.{live_given, other_subtype}
use Rattle.topo_core.proofs.topology.Topology.retype.Goals as goal

pub swap-requires-clause-from_1 : goal.swap-requires-clause-from_1
swap-requires-clause-from_1 g c = (live_given _ c.self.invariant.topology c.args.handle c.in-Some.feature.now c.in-Some.ensures).0

pub swap-requires-clause-given : goal.swap-requires-clause-given
swap-requires-clause-given g c = subst (λ (q : Project). c.args.handle < q.next) c.self.view_is
    (live_given _ c.self.invariant.topology c.args.handle c.in-Some.feature.now c.in-Some.ensures).1

pub swap-requires-clause-own : goal.swap-requires-clause-own
swap-requires-clause-own g c =
    let same : c.in_ok-copy.copy ≡ c.in-Some.feature.now = c.in_ok-copy.ensures in
    rw (c.with_subtype.ensures, same) (handle_of c.self.inside.store.features c.args.handle c.in-Some.feature.now c.in-Some.ensures)

pub swap-requires-clause-fits : goal.swap-requires-clause-fits
swap-requires-clause-fits g c =
    let same : c.in_ok-copy.copy ≡ c.in-Some.feature.now = c.in_ok-copy.ensures in
    subst (λ (q : Project). IsOfClass q.classes c.with_subtype.result) c.self.view_is (rw (c.with_subtype.ensures, same)
    (other_subtype _ c.self.invariant.topology c.args.handle c.args.subtype c.in-Some.feature.now c.in-Some.ensures))

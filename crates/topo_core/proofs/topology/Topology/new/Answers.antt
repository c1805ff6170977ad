use Rattle.std.proofs.Common.{subst, sym}
use Rattle.topology_terms.specs.Sound.{IsSoundUnder}
use Rattle.topology_terms.specs.Settled.{IsSettledUnder}
use Rattle.topo_core.specs.Topologies.{IsTopology}
use Rattle.topo_core.proofs.Whole.{empty_topology, empty_sound, empty_settled}
use Rattle.topo_core.proofs.Exchanges.{nothing}
use Rattle.topo_core.proofs.Standing.{none_placed}
use Rattle.topo_core.proofs.Live.{none_live}
use Rattle.topo_core.proofs.topology.Topology.new.Goals as goal

pub invariant_of-result : goal.invariant_of-result
invariant_of-result g c = record {
  topology = subst IsTopology (sym (nothing c.new.result c.new-3.result.items c.new-4.result c.new-5.result c.new.ensures.classes
      c.new.ensures.features c.new.ensures.next c.new-3.ensures.items c.new-4.ensures c.new-5.ensures)) empty_topology;
  placed = none_placed c.new-2.result c.new.result.features c.new.ensures.features;
  live = none_live c.new-2.result c.new.result.features c.new-2.ensures;
}

pub returns-clause-sound : goal.returns-clause-sound
returns-clause-sound g c = subst (IsSoundUnder g.R.RuleSet.meaning) (sym (nothing c.new.result c.new-3.result.items c.new-4.result
    c.new-5.result c.new.ensures.classes c.new.ensures.features c.new.ensures.next c.new-3.ensures.items c.new-4.ensures c.new-5.ensures))
    (empty_sound g.R.RuleSet.meaning)

pub returns-clause-settled : goal.returns-clause-settled
returns-clause-settled g c = subst (IsSettledUnder g.R.RuleSet.meaning) (sym (nothing c.new.result c.new-3.result.items c.new-4.result
    c.new-5.result c.new.ensures.classes c.new.ensures.features c.new.ensures.next c.new-3.ensures.items c.new-4.ensures c.new-5.ensures))
    (empty_settled g.R.RuleSet.meaning)

use Rattle.std.proofs.Common.{take}
use Rattle.plane_terms.specs.Lists.{Every}
use Rattle.topo_core.specs.Topologies.{IsNamed}
use Rattle.topo_core.proofs.data.names_law.Given as goal

abbrev pub invariant-loop-before : goal.invariant-loop-before
invariant-loop-before l = Every IsNamed (take l.before l.store.classes)

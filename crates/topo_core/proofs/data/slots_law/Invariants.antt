use Rattle.std.proofs.Common.{take}
use Rattle.plane_terms.specs.Lists.{Every}
use Rattle.feature_store.specs.Slots.{filled}
use Rattle.topo_core.specs.Topologies.{IsFormed}
use Rattle.topo_core.proofs.data.slots_law.Given as goal

abbrev pub invariant-loop-slot : goal.invariant-loop-slot
invariant-loop-slot l = Every IsFormed (filled (take l.slot-index l.slots))

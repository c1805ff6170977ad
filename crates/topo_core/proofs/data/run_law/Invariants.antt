use Rattle.std.proofs.Common.{take}
use Rattle.plane_terms.specs.Lists.{Every}
use Rattle.topo_core.specs.Topologies.{IsDrawn}
use Rattle.topo_core.proofs.data.run_law.Given as goal

abbrev pub invariant-loop-entry : goal.invariant-loop-entry
invariant-loop-entry l = Every IsDrawn (take l.entry-index l.entries)

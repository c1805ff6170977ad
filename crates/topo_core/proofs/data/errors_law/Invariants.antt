use Rattle.plane_terms.specs.Lists.{Every}
use Rattle.error_store.specs.Pairs.{entries_in}
use Rattle.topo_core.specs.Topologies.{IsDrawn}
use Rattle.topo_core.proofs.data.errors_law.Given as goal

-- where it holds of those that are left, it holds of all
abbrev pub invariant-loop-run : goal.invariant-loop-run
invariant-loop-run l = Every IsDrawn (entries_in l.run-iterator) → Every IsDrawn l.errors

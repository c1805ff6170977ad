use Rattle.std.proofs.Common.{take}
use Rattle.grid_index.specs.Nodes.{IsReach}
use Rattle.grid_index.proofs.reach.reach_of.Given as goal

abbrev pub invariant-loop-placed : goal.invariant-loop-placed
invariant-loop-placed l = IsReach l.reach (take l.placed-index l.list)

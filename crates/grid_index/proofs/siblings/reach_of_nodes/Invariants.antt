use Rattle.std.proofs.Common.{take}
use Rattle.grid_index.specs.Nodes.{IsReach, all_items}
use Rattle.grid_index.proofs.siblings.reach_of_nodes.Given as goal

abbrev pub invariant-loop-node : goal.invariant-loop-node
invariant-loop-node l = IsReach l.reach (all_items (take l.node-index l.nodes))

use Rattle.grid_index.proofs.Reaches.{reach_node}
use Rattle.grid_index.proofs.siblings.reach_of_nodes.Goals as goal

pub loop-node-preserved : goal.loop-node-preserved
loop-node-preserved c = reach_node c.loop-node.reach c.reach_with-reach.result c.args.nodes.now c.loop-node.node-index c.node-item.result
    c.reach.result c.loop-node-test.true c.node-item.is c.reach_with-reach.ensures c.reach.ensures.within c.reach.ensures.snug
    c.requires c.loop-node.invariant

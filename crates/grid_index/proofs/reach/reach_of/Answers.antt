use Rattle.grid_index.proofs.Reaches.{reach_placed}
use Rattle.grid_index.proofs.reach.reach_of.Goals as goal

pub loop-placed-preserved : goal.loop-placed-preserved
loop-placed-preserved c = reach_placed c.loop-placed.reach c.reach_with-reach.result c.args.list.now c.loop-placed.placed-index
    c.placed-item.result c.loop-placed-test.true c.placed-item.is c.reach_with-reach.ensures c.loop-placed.invariant

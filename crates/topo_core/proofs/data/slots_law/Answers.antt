use Rattle.feature_store.proofs.Filling.{every_filled_more}
use Rattle.topo_core.specs.Topologies.{IsFormed}
use Rattle.topo_core.proofs.data.slots_law.Goals as goal

pub loop-slot-preserved : goal.loop-slot-preserved
loop-slot-preserved c = every_filled_more IsFormed c.args.slots.now c.loop-slot.slot-index c.slot-item.result c.loop-slot-test.true
    c.slot-item.is c.loop-slot.invariant c.slot_law.ensures

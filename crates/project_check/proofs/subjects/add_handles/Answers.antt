use Rattle.topology_terms.specs.Feature.{Feature}
use Rattle.feature_store.proofs.Filling.{map_filled_more}
use Rattle.project_check.proofs.subjects.add_handles.Goals as goal

pub loop-slot-preserved : goal.loop-slot-preserved
loop-slot-preserved c = map_filled_more (λ (f : Feature). f.handle) c.args.slots.now c.loop-slot.slot-index c.slot-item.result
    c.args.subjects.now.items c.loop-slot.subjects.items c.add_handle.new.subjects.items c.loop-slot-test.true c.slot-item.is
    c.loop-slot.invariant c.in_ok-add_handle.ensures

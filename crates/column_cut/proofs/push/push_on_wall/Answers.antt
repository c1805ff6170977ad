use Rattle.std.proofs.Common.{map, refl}
use Rattle.plane_terms.specs.Columns.{at_wall, on_wall}
use Rattle.column_cut.specs.Pieces.{slot_cell, stretch_cell}
use Rattle.column_cut.proofs.Steps.{push_step}
use Rattle.column_cut.proofs.push.push_on_wall.Goals as goal

pub loop-slot-preserved : goal.loop-slot-preserved
loop-slot-preserved c =
    let x = c.args.x.now in
    let stretches = map stretch_cell c.args.stretches.now in
    push_step (λ s. on_wall x (map slot_cell s) stretches) (λ s. at_wall x (slot_cell s) stretches)
    (λ g gs. refl) c.args.slots.now c.loop-slot.slot-index c.slot-item.result c.loop-slot-test.true c.slot-item.is c.loop-slot.cells
    c.push_at_wall.new.cells _ c.loop-slot.invariant c.in_ok-push_at_wall.ensures

use Rattle.std.proofs.Common.{◌∷◌, [], map, refl}
use Rattle.plane_terms.specs.HalfPlane.{x_over, x_under}
use Rattle.plane_terms.specs.Columns.{in_column}
use Rattle.column_cut.specs.Pieces.{slot_cell}
use Rattle.column_cut.proofs.Steps.{push_step}
use Rattle.column_cut.proofs.push.push_column.Goals as goal

pub loop-slot-preserved : goal.loop-slot-preserved
loop-slot-preserved c =
    let x = c.args.left.now in
    let y = c.args.right.now in
    push_step (λ s. in_column x y (map slot_cell s)) (λ s. (x_over x ∷ x_under y ∷ slot_cell s) ∷ [])
    (λ g gs. refl) c.args.slots.now c.loop-slot.slot-index c.slot-item.result c.loop-slot-test.true c.slot-item.is c.loop-slot.cells
    c.push_in_column.new.cells _ c.loop-slot.invariant c.in_ok-push_in_column.ensures

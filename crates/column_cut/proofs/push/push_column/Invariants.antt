use Rattle.std.proofs.Common.{◌≡◌, ◌++◌, drop, map}
use Rattle.plane_terms.specs.Carve.{kept}
use Rattle.plane_terms.specs.Columns.{in_column}
use Rattle.column_cut.specs.Pieces.{slot_cell}
use Rattle.column_cut.proofs.push.push_column.Given as goal

abbrev pub invariant-loop-slot : goal.invariant-loop-slot
invariant-loop-slot l = l.cells ++ kept (in_column l.left l.right (map slot_cell (drop l.slot-index l.slots)))
    ≡ l.initial.cells ++ kept (in_column l.left l.right (map slot_cell l.slots))

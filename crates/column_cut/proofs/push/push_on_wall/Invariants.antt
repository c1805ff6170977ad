use Rattle.std.proofs.Common.{◌≡◌, ◌++◌, drop, map}
use Rattle.plane_terms.specs.Carve.{kept}
use Rattle.plane_terms.specs.Columns.{on_wall}
use Rattle.column_cut.specs.Pieces.{slot_cell, stretch_cell}
use Rattle.column_cut.proofs.push.push_on_wall.Given as goal

abbrev pub invariant-loop-slot : goal.invariant-loop-slot
invariant-loop-slot l = l.cells ++ kept (on_wall l.x (map slot_cell (drop l.slot-index l.slots)) (map stretch_cell l.stretches))
    ≡ l.initial.cells ++ kept (on_wall l.x (map slot_cell l.slots) (map stretch_cell l.stretches))

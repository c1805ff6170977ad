use Rattle.std.proofs.Common.{◌≡◌, ◌++◌, drop, map}
use Rattle.plane_terms.specs.Carve.{kept}
use Rattle.plane_terms.specs.Columns.{at_wall}
use Rattle.column_cut.specs.Pieces.{slot_cell, stretch_cell}
use Rattle.column_cut.proofs.push.push_upward.Given as goal

abbrev pub invariant-loop-stretch : goal.invariant-loop-stretch
invariant-loop-stretch l = l.cells ++ kept (at_wall l.x (slot_cell l.slot) (map stretch_cell (drop l.stretch-index l.stretches)))
    ≡ l.initial.cells ++ kept (at_wall l.x (slot_cell l.slot) (map stretch_cell l.stretches))

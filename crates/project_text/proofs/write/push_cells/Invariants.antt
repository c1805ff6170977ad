use Rattle.std.proofs.Common.{◌≡◌, ◌++◌, take}
use Rattle.std.specs.Prelude.{flat_map}
use Rattle.plane_terms.specs.Cell.{Cell}
use Rattle.project_text.specs.Pushed.{cell_text}
use Rattle.project_text.proofs.write.push_cells.Given as goal

abbrev pub invariant-loop-i : goal.invariant-loop-i
invariant-loop-i l = l.out.items ≡ l.initial.out.items ++ flat_map {X = Cell} cell_text (take l.i l.cells)

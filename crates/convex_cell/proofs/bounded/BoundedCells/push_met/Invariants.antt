use Rattle.std.proofs.Common.{◌≡◌, ◌++◌, ◌-◌, IfSome, map, take}
use Rattle.plane_terms.specs.Cell.{Cell, meet_of}
use Rattle.plane_terms.specs.Carve.{kept}
use Rattle.convex_cell.specs.Needed.{SameCells}
use Rattle.convex_cell.proofs.bounded.BoundedCells.push_met.Given as goal

abbrev pub decreases-loop-i : goal.decreases-loop-i
decreases-loop-i l = l.window.last - l.from

abbrev pub invariant-loop-i : goal.invariant-loop-i
invariant-loop-i l = record {
  made : l.self ≡ l.initial.self ++ kept (map {A = Cell} (meet_of l.cell) (take l.from l.others));
  needed : IfSome l.needed (λ n. SameCells n.items l.cell);
}

use Rattle.std.proofs.Common.{◌≡◌, take}
use Rattle.topology_terms.specs.Cells.{uncovered}
use Rattle.rule_loops.proofs.remainder.left_of_cells.Given as goal

abbrev pub invariant-loop-i : goal.invariant-loop-i
invariant-loop-i l = l.left ≡ uncovered (take l.i l.cells) l.near

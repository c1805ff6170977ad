use Rattle.std.proofs.Common.{◌≡◌, take}
use Rattle.topology_terms.specs.Cells.{uncovered, out_of_segments}
use Rattle.rule_loops.proofs.sides.off_segments.Given as goal

abbrev pub invariant-loop-other : goal.invariant-loop-other
invariant-loop-other l = l.left ≡ uncovered l.fn.cells (out_of_segments l.segment (take l.other-index l.others))

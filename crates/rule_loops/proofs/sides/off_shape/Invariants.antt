use Rattle.std.proofs.Common.{◌≡◌}
use Rattle.topology_terms.specs.Cells.{uncovered, out_of_segments}
use Rattle.rule_loops.specs.Blocks.{left_from}
use Rattle.rule_loops.proofs.sides.off_shape.Given as goal

abbrev pub invariant-loop-k : goal.invariant-loop-k
invariant-loop-k l =
    uncovered l.left (out_of_segments l.segment (left_from l.k l.blocks))
    ≡ uncovered l.fn.cells (out_of_segments l.segment l.blocks)

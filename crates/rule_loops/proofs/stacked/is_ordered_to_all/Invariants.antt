use Rattle.std.proofs.Common.{◌≡◌}
use Rattle.rule_loops.specs.Blocks.{block_of, left_from}
use Rattle.rule_loops.specs.Stacked.{are_ordered}
use Rattle.rule_loops.proofs.stacked.is_ordered_to_all.Given as goal

abbrev pub invariant-loop-j : goal.invariant-loop-j
invariant-loop-j l =
    are_ordered l.order (block_of l.i l.one) (left_from l.j l.other)
    ≡ are_ordered l.order (block_of l.i l.one) l.other

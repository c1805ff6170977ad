use Rattle.std.proofs.Common.{◌≡◌}
use Rattle.rule_loops.specs.Blocks.{left_from}
use Rattle.rule_loops.specs.Stacked.{are_ordered}
use Rattle.rule_loops.proofs.stacked.are_all_ordered.Given as goal

abbrev pub invariant-loop-i : goal.invariant-loop-i
invariant-loop-i l =
    are_ordered l.order (left_from l.i l.one) l.other
    ≡ are_ordered l.order l.one l.other

use Rattle.std.proofs.Common.{◌≡◌, drop}
use Rattle.topology_terms.specs.Cells.{uncovered}
use Rattle.rule_loops.specs.Open.{outsides}
use Rattle.rule_loops.proofs.uncovered.left_by_turns.Given as goal

abbrev pub invariant-loop-i : goal.invariant-loop-i
invariant-loop-i l = record {
  left : uncovered l.left (outsides l.side l.except (drop l.i l.view)) ≡ uncovered l.fn.cells (outsides l.side l.except (drop l.from l.view));
  uncounted : l.work.judged ≡ l.fn.work.judged;
}

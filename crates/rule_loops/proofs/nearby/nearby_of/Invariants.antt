use Rattle.std.proofs.Common.{◌≡◌, ◌++◌, drop}
use Rattle.rule_loops.specs.Open.{outsides}
use Rattle.rule_loops.proofs.nearby.nearby_of.Given as goal

abbrev pub invariant-loop-i : goal.invariant-loop-i
invariant-loop-i l = record {
  all : l.held.items ++ outsides l.side l.except (drop l.i l.view) ≡ l.fn.first.items ++ outsides l.side l.except l.view;
  uncounted : l.work.judged ≡ l.fn.work.judged;
}

use Rattle.std.proofs.Common.{◌≡◌, take}
use Rattle.topology_terms.specs.Plans as plans
use Rattle.topology_terms.specs.Together.{of_side}
use Rattle.rule_loops.proofs.common.with_side.Given as goal

abbrev pub invariant-loop-i : goal.invariant-loop-i
invariant-loop-i g l = record {
  found : l.findings ≡ plans.pair_findings (g.C.Common.common l.common) (of_side l.side (take l.i l.view));
  uncounted : l.work.judged ≡ l.fn.work.judged;
}

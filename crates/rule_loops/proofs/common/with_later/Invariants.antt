use Rattle.std.proofs.Common.{◌≡◌, take}
use Rattle.std.specs.List.{filter}
use Rattle.topology_terms.specs.Plans as plans
use Rattle.rule_loops.specs.Views.{later_of}
use Rattle.rule_loops.proofs.common.with_later.Given as goal

abbrev pub invariant-loop-i : goal.invariant-loop-i
invariant-loop-i g l = record {
  found : l.findings ≡ plans.pair_findings (g.C.Common.common l.common) (filter (later_of l.side l.subject) (take l.i l.view));
  uncounted : l.work.judged ≡ l.fn.work.judged;
}

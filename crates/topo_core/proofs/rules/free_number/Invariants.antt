use Rattle.std.proofs.Common.{◌≡◌, ◌≤◌, ◌+◌, drop}
use Rattle.topo_core.proofs.RuleLists.{run_on}
use Rattle.topo_core.proofs.rules.free_number.Given as goal

abbrev pub invariant-loop-rule : goal.invariant-loop-rule
invariant-loop-rule l = record {
  few : l.number ≤ l.rule-index + 1;
  run : run_on l.number (drop l.rule-index l.rules) ≡ run_on 1 l.rules;
}

use Rattle.std.proofs.Common.{◌≡◌, ◌≤◌, drop}
use Rattle.topo_core.specs.RuleLists.{lower_from}
use Rattle.topo_core.proofs.rules.place_of.Given as goal

abbrev pub invariant-loop-rule : goal.invariant-loop-rule
invariant-loop-rule l = record {
  few : l.place ≤ l.rule-index;
  run : lower_from l.place l.number (drop l.rule-index l.rules) ≡ lower_from 0 l.number l.rules;
}

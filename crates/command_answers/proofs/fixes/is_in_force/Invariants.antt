use Rattle.std.proofs.Common.{◌≡◌, drop}
use Rattle.topology_terms.specs.Project.{rule_at}
use Rattle.command_answers.proofs.fixes.is_in_force.Given as goal

abbrev pub invariant-loop-rule : goal.invariant-loop-rule
invariant-loop-rule l = record {
  run : rule_at (drop l.rule-index l.rules) l.number ≡ rule_at l.rules l.number;
}

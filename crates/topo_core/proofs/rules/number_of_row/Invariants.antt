use Rattle.std.proofs.Common.{◌≡◌, drop}
use Rattle.topology_terms.specs.Causes.{is_there}
use Rattle.topo_core.proofs.rules.number_of_row.Given as goal

abbrev pub invariant-loop-rule : goal.invariant-loop-rule
invariant-loop-rule l = record {
  run : is_there (drop l.rule-index l.rules) l.row ≡ is_there l.rules l.row;
}

use Rattle.std.proofs.Common.{take}
use Rattle.plane_terms.specs.Lists.{Every}
use Rattle.project_terms.specs.Records.{HasSmallSides}
use Rattle.topo_core.proofs.data.rules_law.Given as goal

abbrev pub invariant-loop-rule : goal.invariant-loop-rule
invariant-loop-rule l = Every HasSmallSides (take l.rule-index l.rules)

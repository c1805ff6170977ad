use Rattle.std.proofs.Common.{take}
use Rattle.plane_terms.specs.Lists.{Every}
use Rattle.topology_terms.specs.Project.{Project}
use Rattle.project_check.specs.Subjects.{HasLists, IsSoundFor}
use Rattle.project_check.proofs.pair.first_rule.Given as goal

abbrev pub invariant-loop-i : goal.invariant-loop-i
invariant-loop-i g l = (p : Project) → HasLists p l.features.features l.dirt l.errors
    → Every (IsSoundFor g.R.RuleSet.meaning p l.subject) (take l.i l.in_force)

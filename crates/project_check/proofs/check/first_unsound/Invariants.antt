use Rattle.std.proofs.Common.{◌≡◌, ◌≤◌, length, take}
use Rattle.topology_terms.specs.Project.{Project}
use Rattle.project_check.specs.Subjects.{HasLists}
use Rattle.project_check.proofs.Seen.{IsSeen}
use Rattle.project_check.proofs.check.first_unsound.Given as goal

abbrev pub invariant-loop-subject : goal.invariant-loop-subject
invariant-loop-subject g l = (l.left ≤ length l.in_force)
    × ((p : Project) → HasLists p l.features.features l.dirt l.errors → p.rules ≡ l.in_force
    → IsSeen g.R.RuleSet.meaning p l.in_force (take l.subject-index l.subjects) l.left l.found)

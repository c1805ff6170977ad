use Rattle.std.specs.Prelude.{length}
use Rattle.command_answers.proofs.Planning.{SoFar}
use Rattle.command_answers.proofs.planned.do_plan.Given as goal

abbrev pub invariant-loop-tree : goal.invariant-loop-tree
invariant-loop-tree l = SoFar l.editor l.initial.plan l.plan l.initial.tree l.tree l.initial.sessions l.sessions

abbrev pub decreases-loop-tree : goal.decreases-loop-tree
decreases-loop-tree l = length l.plan

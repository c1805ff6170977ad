use Rattle.command_answers.proofs.Planning.{goes_on}
use Rattle.command_answers.proofs.planned.do_plan.Goals as goal

pub loop-tree-preserved : goal.loop-tree-preserved
loop-tree-preserved c =
    goes_on c.args.editor.now c.args.plan.now c.loop-tree.plan c.do_first.new.plan c.args.tree.now c.loop-tree.tree c.do_first.new.tree
    c.args.sessions.now c.loop-tree.sessions c.do_first.new.sessions c.loop-tree.invariant c.in_ok-do_first.ensures.stepped
    c.do_first.ensures.world c.current_law-in-loop-tree.ensures.ordered c.do_first.ensures.sound c.do_first.ensures.settled
    c.do_first.ensures.aside

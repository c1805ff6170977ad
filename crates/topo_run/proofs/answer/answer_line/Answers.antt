use Rattle.topo_run.proofs.Stepping.{gathers}
use Rattle.topo_run.proofs.answer.answer_line.Goals as goal

pub returns : goal.returns
returns c =
    gathers c.args.world.now c.reply_to.new.world c.args.line.now c.args.out.now.items c.push_reply.new.out.items c.in_ok-reply.reply
    c.is_refusal.result c.in_ok-reply.ensures (rw c.topology.ensures at c.in_ok-push_reply.ensures)
    (c.is_refusal.ensures c.reply_to.new.world.project)

use Rattle.script_terms.specs.State.{empty_state}
use Rattle.topo_run.proofs.Stepping.{keeps_by}
use Rattle.topo_run.proofs.Towns.{told_begins, told_more}
use Rattle.topo_run.proofs.town.answer_all.Goals as goal

pub loop-line-init : goal.loop-line-init
loop-line-init c = told_begins empty_state c.args.world.now _ c.requires (keeps_by c.args.world.now c.args.world.now (λ k. k) (λ k. k)
    c.headline_law.ensures.sound c.headline_law.ensures.invariant)

pub loop-line-preserved-in_ok-reply : goal.loop-line-preserved-in_ok-reply
loop-line-preserved-in_ok-reply c =
    told_more c.in_ok-reply.reply c.loop-line.invariant c.in-Some.ensures.0 c.in_ok-reply.ensures c.with-told.ensures.judged
    (c.with-told.ensures.refused c.reply_to.new.world.project)

pub loop-line-preserved : goal.loop-line-preserved
loop-line-preserved c =
    told_more c.in_ok-reply.reply c.loop-line.invariant c.in-Some.ensures.0 c.in_ok-reply.ensures c.with-told.ensures.judged
    (c.with-told.ensures.refused c.reply_to.new.world.project)

pub loop-line-preserved-in_ok-reply-2 : goal.loop-line-preserved-in_ok-reply-2
loop-line-preserved-in_ok-reply-2 c =
    told_more c.in_ok-reply.reply c.loop-line.invariant c.in-Some.ensures.0 c.in_ok-reply.ensures c.with-told.ensures.judged
    (c.with-told.ensures.refused c.reply_to.new.world.project)

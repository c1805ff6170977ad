use Rattle.topo_run.proofs.Endings.{answered_new}
use Rattle.topo_run.proofs.Feeding.{err_again}
use Rattle.topo_run.proofs.replay.replay_from.Goals as goal

pub returns-in-Ok-clause-ends : goal.returns-in-Ok-clause-ends
returns-in-Ok-clause-ends g c = rw (c.status_of.ensures, c.refused.ensures) (answered_new c.args.replayer.now c.answer_script.new.replayer _ _
    c.in-Ok.end c.requires c.in-Ok.ensures.ok)

pub returns-in-Err-WriteFault-clause-ends : goal.returns-in-Err-WriteFault-clause-ends
returns-in-Err-WriteFault-clause-ends g c =
    let failed = err_again c.in-Err-WriteFault.field-0 _ c.in-Err-WriteFault.field-0-is in
    (c.in-Err-WriteFault.ensures.failed failed, c.in-Err-WriteFault.ensures.broken failed)

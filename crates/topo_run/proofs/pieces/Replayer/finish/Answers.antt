use Rattle.topo_run.proofs.Feeding.{err_again, err_is}
use Rattle.topo_run.proofs.pieces.Replayer.finish.Goals as goal

pub returns-in-Err-clause-broken : goal.returns-in-Err-clause-broken
returns-in-Err-clause-broken g c = λ failed. c.in-Err.ensures.broken (err_again c.in-Err.stop _ (err_is c.in-Err.stop _ failed))

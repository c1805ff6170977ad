use Rattle.topo_run.proofs.Restores.{undo_there, discard_there, undo_over, discard_over}
use Rattle.topo_run.proofs.law.exact_undo_law.Goals as goal

pub returns-clause-undo : goal.returns-clause-undo
returns-clause-undo c = undo_over

pub returns-clause-discard : goal.returns-clause-discard
returns-clause-discard c = discard_over

pub returns-clause-undo_there : goal.returns-clause-undo_there
returns-clause-undo_there c = undo_there

pub returns-clause-discard_there : goal.returns-clause-discard_there
returns-clause-discard_there c = discard_there

use Rattle.error_store.proofs.Pairs.{runs_ascend}
use Rattle.error_store.proofs.runs.order_law.Goals as goal

pub returns-clause-ascending : goal.returns-clause-ascending
returns-clause-ascending c = runs_ascend c.args.runs.now c.len.ensures.ordered c.requires

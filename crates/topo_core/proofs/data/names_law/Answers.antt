use Rattle.topo_core.proofs.Indexing.{name_more}
use Rattle.topo_core.proofs.data.names_law.Goals as goal

pub loop-before-preserved : goal.loop-before-preserved
loop-before-preserved c = name_more c.args.store.now.classes c.loop-before.before c.name_law.ensures c.loop-before.invariant

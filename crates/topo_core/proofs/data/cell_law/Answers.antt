use Rattle.plane_terms.specs.HalfPlane.{IsHalfPlane}
use Rattle.topo_core.proofs.Indexing.{got_more}
use Rattle.topo_core.proofs.data.cell_law.Goals as goal

pub loop-i-preserved : goal.loop-i-preserved
loop-i-preserved c = got_more IsHalfPlane c.args.cell.now c.loop-i.i c.half.result c.half.ensures c.a.ensures.valid c.loop-i.invariant

use Rattle.plane_terms.specs.Cell.{Cell}
use Rattle.plane_terms.specs.HalfPlane.{IsHalfPlane}
use Rattle.plane_terms.specs.Lists.{Every}
use Rattle.topo_core.proofs.Indexing.{got_more}
use Rattle.topo_core.proofs.data.cells_law.Goals as goal

pub loop-i-preserved : goal.loop-i-preserved
loop-i-preserved c = got_more (λ (d : Cell). Every IsHalfPlane d) c.args.cells.now c.loop-i.i c.cell.result c.cell.ensures
    c.cell_law.ensures c.loop-i.invariant

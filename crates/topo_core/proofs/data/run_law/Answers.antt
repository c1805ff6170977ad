use Rattle.topo_core.specs.Topologies.{IsDrawn}
use Rattle.sound_check.proofs.Pairs.{every_more}
use Rattle.topo_core.proofs.data.run_law.Goals as goal

pub loop-entry-preserved : goal.loop-entry-preserved
loop-entry-preserved c = every_more IsDrawn c.args.entries.now c.loop-entry.entry-index c.entry-item.result c.loop-entry-test.true
    c.entry-item.is c.loop-entry.invariant (record {
      frame = rw c.frame.ensures at c.corner_law.ensures;
      halves = rw c.cells.ensures at c.cells_law.ensures;
    })

use Rattle.std.proofs.Common.{length}
use Rattle.rule_loops.proofs.Blocked.{blocks_counted}
use Rattle.rule_loops.proofs.blocks.Blocks.count.Goals as goal

pub returns : goal.returns
returns c =
    let b = c.self.inside in
    rw (← c.self.view_is) (blocks_counted (length b.frames.now) c.max.result b.segments.now c.self.invariant.0.count c.max.ensures)

use Rattle.std.proofs.Common.{sym, ◌∙◌}
use Rattle.rule_loops.specs.Blocks.{block_of}
use Rattle.rule_loops.proofs.Ordered.{frames_ordered}
use Rattle.rule_loops.proofs.stacked.is_block_ordered.Goals as goal

pub returns-then-frame_stands : goal.returns-then-frame_stands
returns-then-frame_stands c =
    frames_ordered c.args.order c.frame.result c.frame-2.result (block_of c.args.i c.args.one.now)
    (block_of c.args.j c.args.other.now) c.frame.ensures c.frame-2.ensures
    (sym c.frame_stands.ensures ∙ c.if-frame_stands.true)

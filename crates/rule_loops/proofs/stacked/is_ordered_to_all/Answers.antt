use Rattle.std.proofs.Common.{ap, arith}
use Rattle.std.proofs.lemmas.Bool.{OnTrue_at}
use Rattle.rule_loops.specs.Blocks.{block_of}
use Rattle.rule_loops.specs.Stacked.{are_ordered}
use Rattle.rule_loops.proofs.Blocked.{left_all}
use Rattle.rule_loops.proofs.Ordered.{ordered_more, ordered_end}
use Rattle.rule_loops.proofs.stacked.is_ordered_to_all.Goals as goal

pub loop-j-init : goal.loop-j-init
loop-j-init c = ap (are_ordered c.args.order (block_of c.args.i c.args.one.now)) (left_all c.args.other.now)

pub loop-j-preserved : goal.loop-j-preserved
loop-j-preserved c = ordered_more c.args.order (block_of c.args.i c.args.one.now) c.loop-j.j c.args.other.now _
    (OnTrue_at c.if-not-is_block_ordered.false c.is_block_ordered.ensures) c.loop-j.invariant

pub returns : goal.returns
returns c = ordered_end c.args.order (block_of c.args.i c.args.one.now) c.loop-j.j c.args.other.now _
    (omega (arith, c.count-j-end.ensures)) c.loop-j.invariant

use Rattle.std.proofs.Common.{length}
use Rattle.rule_loops.proofs.Blocked.{are_many, are_few}
use Rattle.rule_loops.proofs.Later.{one_block, block_begun}
use Rattle.rule_loops.proofs.blocks.Blocks.rest_from.Goals as goal

pub returns-then-is_empty : goal.returns-then-is_empty
returns-then-is_empty c =
    let b = c.self.inside in
    let few = are_few (length b.frames.now) b.segments.now c.self.invariant.0.count c.if-is_empty.ensures in
    rw (← c.self.view_is) (one_block c.args.from b.segments.now c.split_at.result.1.now few c.split_at.ensures.back)

pub returns : goal.returns
returns c =
    let b = c.self.inside in
    let many = are_many (length b.frames.now) b.segments.now c.self.invariant.0.count c.if-is_empty.ensures in
    rw (← c.self.view_is, c.first_of.ensures)
    (block_begun c.args.from b.segments.now c.split_at.result.1.now many c.split_at.ensures.back)

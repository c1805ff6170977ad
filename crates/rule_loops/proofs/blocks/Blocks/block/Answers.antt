use Rattle.std.proofs.Common.{◌*◌, ◌<◌, sym, ◌∙◌, ap, take, length, arith}
use Rattle.rule_loops.proofs.Blocked.{are_many, are_few, begins_within, only_block, block_is}
use Rattle.rule_loops.proofs.blocks.Blocks.block.Goals as goal

pub returns-then-is_empty : goal.returns-then-is_empty
returns-then-is_empty c =
    let b = c.self.inside in
    let few = are_few (length b.frames.now) b.segments.now c.self.invariant.0.count c.if-is_empty.ensures in
    rw (← c.self.view_is) (sym (only_block b.segments.now c.args.k few (rw (← c.self.view_is) at c.requires)))

pub split_at-requires : goal.split_at-requires
split_at-requires c =
    let b = c.self.inside in
    let many = are_many (length b.frames.now) b.segments.now c.self.invariant.0.count c.if-is_empty.ensures in
    let l : 32 * c.args.k < length b.segments.now = begins_within b.segments.now c.args.k many (rw (← c.self.view_is) at c.requires) in
    omega (arith, l)

pub returns : goal.returns
returns c =
    let b = c.self.inside in
    let many = are_many (length b.frames.now) b.segments.now c.self.invariant.0.count c.if-is_empty.ensures in
    rw (← c.self.view_is) (c.first_of.ensures ∙ (ap (take 32) c.split_at.ensures.back ∙ sym (block_is b.segments.now c.args.k many)))

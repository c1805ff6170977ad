use Rattle.std.proofs.Common.{refl, length}
use Rattle.std.proofs.lemmas.Option.{slice_get_read}
use Rattle.rule_loops.proofs.Blocked.{are_many, are_few, only_block, block_is, frame_within}
use Rattle.rule_loops.proofs.blocks.Blocks.frame.Goals as goal

pub returns-then-is_empty : goal.returns-then-is_empty
returns-then-is_empty c =
    let b = c.self.inside in
    let few = are_few (length b.frames.now) b.segments.now c.self.invariant.0.count c.if-is_empty.ensures in
    rw (← c.self.view_is, only_block b.segments.now c.args.k few (rw (← c.self.view_is) at c.requires)) c.self.invariant.1

pub returns : goal.returns
returns c =
    let b = c.self.inside in
    let rs = b.frames.now in
    let many = are_many (length rs) b.segments.now c.self.invariant.0.count c.if-is_empty.ensures in
    let within = frame_within (length rs) b.segments.now c.args.k many c.self.invariant.0.count (rw (← c.self.view_is) at c.requires) in
    rw (← c.self.view_is, block_is b.segments.now c.args.k many, ← c.index-self-k.is) (c.self.invariant.0.round c.args.k c.index-self-k.result
    (slice_get_read rs (length rs) c.args.k c.index-self-k.result refl within c.index-self-k.is))

pub bounds-self-inside-k : goal.bounds-self-inside-k
bounds-self-inside-k c =
    let b = c.self.inside in
    let many = are_many (length b.frames.now) b.segments.now c.self.invariant.0.count c.if-is_empty.ensures in
    frame_within (length b.frames.now) b.segments.now c.args.k many c.self.invariant.0.count (rw (← c.self.view_is) at c.requires)

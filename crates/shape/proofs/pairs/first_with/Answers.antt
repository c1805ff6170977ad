use Rattle.std.proofs.Common.{◌∙◌, ◌+◌, ◌*◌, length, min, Option, sym, ap, subst, arith}
use Rattle.shape.specs.declared.pairs.Pair.{Pair}
use Rattle.shape.specs.Pairs.{IsFirstWithin, sooner_than}
use Rattle.shape.proofs.FirstPairs.{frame_at, bounds_moved, block_more, block_apart}
use Rattle.shape.proofs.pairs.first_with.Goals as goal

pub returns-then-not-meets : goal.returns-then-not-meets
returns-then-not-meets c =
    let ss = c.args.segs.now in
    let rs = c.args.frames.now in
    let a = c.args.a in
    let b = c.args.b in
    block_apart ss (32 * a) (32 * a + 32) (32 * a) (32 * b) (32 * b + 32) c.args.best c.index-frames-a.result c.index-frames-b.result
    (omega arith) (omega arith) c.requires.known (frame_at rs ss a c.index-frames-a.result c.requires.framed (omega arith) c.index-frames-a.is)
    (frame_at rs ss b c.index-frames-b.result c.requires.framed (omega arith) c.index-frames-b.is) (sym c.meets.ensures.value
    ∙ c.if-not-meets.true)

pub first_between-found-requires-clause-framed : goal.first_between-found-requires-clause-framed
first_between-found-requires-clause-framed c = λ j t l m e.
    frame_at c.args.frames.now c.args.segs.now c.args.b c.index-frames-b.result c.requires.framed c.requires.within c.index-frames-b.is j t
    (omega (arith, l, c.block_at-2.ensures.from)) (omega (arith, m, c.block_at-2.ensures.to)) e

pub returns : goal.returns
returns c =
    let ss = c.args.segs.now in
    let n = length ss in
    let a = c.args.a in
    let b = c.args.b in
    let best = c.args.best in
    let found = c.first_between-found.result in
    let block = c.sooner_than-block.result in
    let other = c.block_at-2.result in
    let within =
    bounds_moved ss block.from block.to other.from other.to (32 * a) (sooner_than (min n (32 * a + 32)) best) (32 * b)
    (min n (32 * b + 32)) found (c.sooner_than-block.ensures.from ∙ c.block_at.ensures.from)
    (c.sooner_than-block.ensures.to ∙ ap (λ k. sooner_than k best) c.block_at.ensures.to) c.block_at-2.ensures.from
    c.block_at-2.ensures.to c.first_between-found.ensures in
    subst (λ (r : Option Pair). IsFirstWithin ss (32 * a) (32 * a + 32) (32 * a) (32 * b + 32) r) (sym c.or.ensures)
    (block_more ss (32 * a) (32 * a + 32) (32 * a) (32 * b) (32 * b + 32) best found (omega arith) (omega arith) c.requires.known within)

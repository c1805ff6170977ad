use Rattle.std.proofs.Common.{◌+◌, ◌*◌, length, arith}
use Rattle.shape.proofs.FirstPairs.{first_is, before_more, before_all, blocks_hold}
use Rattle.shape.proofs.pairs.first_of_blocks.Goals as goal

pub returns-in-Some : goal.returns-in-Some
returns-in-Some c =
    let a = 32 * c.loop-a.a in
    first_is c.args.segs.now a (a + 32) a (32 * length c.args.frames.now) c.in-Some.pair (omega arith)
    (blocks_hold c.args.frames.now c.args.segs.now c.requires.framed c.requires.many) c.loop-a.invariant c.in-Some.ensures

pub loop-a-preserved : goal.loop-a-preserved
loop-a-preserved c = λ i j l.
    let a = 32 * c.loop-a.a in
    before_more c.args.segs.now a (a + 32) a (32 * length c.args.frames.now) (omega arith)
    (blocks_hold c.args.frames.now c.args.segs.now c.requires.framed c.requires.many) c.loop-a.invariant c.in_default.ensures i j
    (omega (arith, l))

pub returns : goal.returns
returns c =
    let hold = blocks_hold c.args.frames.now c.args.segs.now c.requires.framed c.requires.many in
    before_all c.args.segs.now (32 * c.loop-a.a) (omega (arith, hold)) c.loop-a.invariant

use Rattle.std.proofs.Common.{arith}
use Rattle.shape.proofs.FirstPairs.{within_more}
use Rattle.shape.proofs.pairs.first_between.Goals as goal

pub returns-in-Some : goal.returns-in-Some
returns-in-Some c =
    record { least = c.loop-i.auto.i; below = c.loop-i-test.true; next = c.in-Some.ensures; first = c.loop-i.invariant }

pub loop-i-preserved : goal.loop-i-preserved
loop-i-preserved c =
    within_more c.args.segs.now c.args.block.from c.loop-i.i c.args.other.from c.args.other.to c.loop-i.invariant c.in_default.ensures

pub returns : goal.returns
returns c = λ i l m. c.loop-i.invariant i l (omega arith)

use Rattle.std.proofs.Common.{◌+◌, length, arith}
use Rattle.shape.proofs.FirstPairs.{first_is, before_more, before_all, one_found, one_within}
use Rattle.shape.proofs.pairs.first_of_few.Goals as goal

pub returns-in-Some : goal.returns-in-Some
returns-in-Some c =
    let ss = c.args.segs.now in
    let i = c.loop-i.i in
    first_is ss i (i + 1) (i + 1) (length ss) (record { i = i; j = c.in-Some.j }) (omega arith) (omega arith) c.loop-i.invariant
    (one_found ss i (i + 1) (length ss) c.in-Some.j c.in-Some.ensures)

pub loop-i-preserved : goal.loop-i-preserved
loop-i-preserved c =
    let ss = c.args.segs.now in
    let i = c.loop-i.i in
    before_more ss i (i + 1) (i + 1) (length ss) (omega arith) (omega arith) c.loop-i.invariant
    (one_within ss i (i + 1) (length ss) c.in_default.ensures)

pub returns : goal.returns
returns c = before_all c.args.segs.now c.loop-i.i (omega arith) c.loop-i.invariant

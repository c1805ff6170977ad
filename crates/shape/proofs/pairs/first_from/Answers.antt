use Rattle.std.proofs.Common.{arith}
use Rattle.plane_terms.specs.ShapeFaults.{AreBad}
use Rattle.shape.proofs.FirstPairs.{bad_at, pair_at, none_more, not_from}
use Rattle.shape.proofs.pairs.first_from.Goals as goal

pub returns-then-are_bad : goal.returns-then-are_bad
returns-then-are_bad c = record {
  pair = pair_at AreBad c.args.segs.now c.args.i c.loop-j.j c.index-segs-i.result c.index-segs-j.result (omega arith) (omega arith)
      c.index-segs-i.is c.index-segs-j.is (c.are_bad.ensures.0 c.if-are_bad.true);
  least = c.loop-j.auto.j;
  below = c.loop-j-test.true;
  first = c.loop-j.invariant;
}

pub loop-j-preserved : goal.loop-j-preserved
loop-j-preserved c =
    none_more c.args.segs.now c.args.i c.args.run.from c.loop-j.j c.loop-j.invariant
    (λ q. not_from c.are_bad.ensures.1 c.if-are_bad.false
    (bad_at c.args.segs.now c.args.i c.loop-j.j c.index-segs-i.result c.index-segs-j.result c.index-segs-i.is c.index-segs-j.is q))

pub returns : goal.returns
returns c = λ j l m. c.loop-j.invariant j l (omega arith)

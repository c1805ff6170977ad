use Rattle.std.proofs.Common.{◌+◌, arith}
use Rattle.convex_cell.proofs.Steps.{beside_apart}
use Rattle.convex_cell.proofs.stack.behind.Goals as goal

pub loop-low-preserved-then-are_beside : goal.loop-low-preserved-then-are_beside
loop-low-preserved-then-are_beside c = record {
  from = omega arith;
  within = omega (arith, c.min.ensures);
  fits = c.loop-low.invariant.fits;
  apart = λ k d l h. beside_apart c.args.bounds.now c.args.own.now c.args.i k (c.loop-low.low + c.min.result) _ _ d c.requires.rising l h
      (omega (arith, c.min.ensures)) c.if-are_beside.ensures;
}

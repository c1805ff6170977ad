use Rattle.std.proofs.Common.{IfSome, arith}
use Rattle.std.proofs.lemmas.List.{take_all}
use Rattle.cell_laws.specs.Bounds.{Compatible}
use Rattle.plane_terms.specs.Decide.{high_of}
use Rattle.convex_cell.specs.Seen.{seen}
use Rattle.convex_cell.proofs.Loops.{all_step, all_end}
use Rattle.convex_cell.proofs.pairs.cut_by_pairs.Goals as goal

pub loop-half-preserved : goal.loop-half-preserved
loop-half-preserved c = record {
  fits = c.cut_by_high.ensures.fits;
  both = λ t w p. all_step (λ g. IfSome (high_of (seen c.args.direction g)) (λ u. Compatible c.args.low u t w)) c.args.halves.now
      c.loop-half.half-index c.half-item.result _ _ _ c.loop-half-test.true c.half-item.is (c.loop-half.invariant.both t w p)
      (rw c.seen.ensures at (c.cut_by_high.ensures.both t w p));
}

pub returns-clause-both : goal.returns-clause-both
returns-clause-both c =
    λ t w p. all_end (λ g. IfSome (high_of (seen c.args.direction g)) (λ u. Compatible c.args.low u t w)) c.args.halves.now
    c.loop-half.half-index _ _ (take_all _ _ (omega arith)) (c.loop-half.invariant.both t w p)

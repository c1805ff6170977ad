use Rattle.std.proofs.Common.{arith}
use Rattle.std.proofs.lemmas.List.{take_all}
use Rattle.cell_laws.specs.Bounds.{FlatHolds}
use Rattle.convex_cell.specs.Seen.{seen, PairsSeen}
use Rattle.convex_cell.proofs.Loops.{all_step, all_end, all_kept}
use Rattle.convex_cell.proofs.pairs.range_of.Goals as goal

pub loop-half-preserved : goal.loop-half-preserved
loop-half-preserved c = record {
  fits = c.cut_by_half.ensures.fits;
  both = λ t w p. all_step (λ h. FlatHolds (seen c.args.direction h) t w × PairsSeen c.args.direction c.args.halves.now
      (seen c.args.direction h) t w) c.args.halves.now c.loop-half.half-index c.half-item.result _ _ _ c.loop-half-test.true c.half-item.is
      (c.loop-half.invariant.both t w p) (rw c.seen.ensures at (c.cut_by_half.ensures.both t w p));
}

pub returns-clause-both : goal.returns-clause-both
returns-clause-both c =
    λ t w p. all_kept (λ h. FlatHolds (seen c.args.direction h) t w × PairsSeen c.args.direction c.args.halves.now (seen c.args.direction h)
    t w) c.args.halves.now _ _ (c.all-range.ensures.all t w) (all_end (λ h. FlatHolds (seen c.args.direction h) t w
    × PairsSeen c.args.direction c.args.halves.now (seen c.args.direction h) t w) c.args.halves.now c.loop-half.half-index _ _
    (take_all _ _ (omega arith)) (c.loop-half.invariant.both t w p))

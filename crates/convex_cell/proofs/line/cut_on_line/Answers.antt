use Rattle.std.proofs.Common.{arith}
use Rattle.std.proofs.lemmas.List.{take_all}
use Rattle.convex_cell.specs.Seen.{seen}
use Rattle.convex_cell.specs.Line.{SaysOn}
use Rattle.convex_cell.proofs.Loops.{all_step, all_end}
use Rattle.convex_cell.proofs.line.cut_on_line.Goals as goal

pub loop-half-preserved : goal.loop-half-preserved
loop-half-preserved c = record {
  fits = c.cut_on.ensures.fits;
  both = λ t w p. all_step (λ h. SaysOn c.args.line.now (seen c.args.direction h) t w) c.args.halves.now c.loop-half.half-index
      c.half-item.result _ _ _ c.loop-half-test.true c.half-item.is (c.loop-half.invariant.both t w p)
      (rw c.seen.ensures at (c.cut_on.ensures.both t w p));
}

pub returns-clause-both : goal.returns-clause-both
returns-clause-both c =
    λ t w p. all_end (λ h. SaysOn c.args.line.now (seen c.args.direction h) t w) c.args.halves.now c.loop-half.half-index _ _
    (take_all _ _ (omega arith)) (c.loop-half.invariant.both t w p)

use Rattle.std.proofs.Common.{arith}
use Rattle.convex_cell.proofs.Ranges.{limit_back}
use Rattle.convex_cell.proofs.OnLines.{said_on}
use Rattle.convex_cell.proofs.line.cut_on.Goals as goal

pub returns-clause-both : goal.returns-clause-both
returns-clause-both c =
    let m = c.slope_on in
    let k = c.constant_on in
    λ t w p. said_on c.args.line.now c.args.half.now c.op.result m.result k.result _ _ t w _ _ c.op.ensures
    (limit_back m.result (omega (arith, m.ensures.fits))) (limit_back k.result (omega (arith, k.ensures.fits))) m.ensures.value
    k.ensures.value (c.cut_to.ensures.both t w p)

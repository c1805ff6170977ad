use Rattle.std.proofs.Common.{arith}
use Rattle.convex_cell.proofs.Ranges.{limit_back}
use Rattle.convex_cell.proofs.PairCuts.{cut_both, turned_limit}
use Rattle.convex_cell.proofs.range.Range.cut_to.Goals as goal

pub returns-in-Zero-clause-both : goal.returns-in-Zero-clause-both
returns-in-Zero-clause-both c =
    let r = c.requires in
    λ t w p. cut_both c.args.op c.args.m c.args.k _ _ _ _ t w _ _ _ c.in-Zero.is (limit_back c.args.m (omega (arith, r.m_fits)))
    (limit_back c.args.k (omega (arith, r.k_fits))) (turned_limit c.args.m (omega (arith, r.m_fits)))
    (turned_limit c.args.k (omega (arith, r.k_fits))) (c.cut-in-Zero.ensures.both t w p) (c.cut-in-Zero-2.ensures.both t w p)

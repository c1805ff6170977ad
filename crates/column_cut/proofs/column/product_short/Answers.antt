use Rattle.std.proofs.Common.{ℤ, ◌≤◌, ◌^◌, unsigned_abs, sym, subst}
use mir.Syntax.{w64}
use Rattle.column_cut.proofs.Ranking.{product_back, product_fits_short, product_short_bound}
use Rattle.column_cut.proofs.column.product_short.Goals as goal

pub returns-clause-value : goal.returns-clause-value
returns-clause-value c = product_back w64 c.args.k c.args.m c.ranges.k c.ranges.m
    (product_fits_short c.args.k c.args.m c.requires.k_fits c.requires.m_fits)

pub returns-clause-fits : goal.returns-clause-fits
returns-clause-fits c =
    let e = product_back w64 c.args.k c.args.m c.ranges.k c.ranges.m
    (product_fits_short c.args.k c.args.m c.requires.k_fits c.requires.m_fits) in
    subst (λ (z : ℤ). unsigned_abs z ≤ 2 ^ 47) (sym e) (product_short_bound c.args.k c.args.m c.requires.k_fits c.requires.m_fits)

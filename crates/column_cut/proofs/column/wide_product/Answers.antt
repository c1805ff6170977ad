use mir.Syntax.{w128}
use Rattle.column_cut.proofs.Ranking.{product_back, product_fits}
use Rattle.column_cut.proofs.column.wide_product.Goals as goal

pub returns : goal.returns
returns c = record {
  value = product_back w128 c.args.k c.args.m c.ranges.k c.ranges.m
      (product_fits c.args.k c.args.m c.requires.k_fits c.requires.m_fits);
}

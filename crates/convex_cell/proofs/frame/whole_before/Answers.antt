use Rattle.convex_cell.proofs.Spans.{whole_back, read_below, read_above}
use Rattle.convex_cell.proofs.frame.whole_before.Goals as goal

pub returns : goal.returns
returns c =
    let l = c.args.limit in
    let q = c.floor_of.result in
    let v = c.requires in record {
      below = rw (whole_back q c.floor_of.type_inv) (read_below q l.m l.k v.m_fits v.k_fits c.floor_of.ensures.below);
      above = rw (whole_back q c.floor_of.type_inv) (read_above q l.m l.k v.m_fits v.k_fits c.floor_of.ensures.above);
    }

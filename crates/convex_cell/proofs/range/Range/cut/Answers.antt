use Rattle.std.proofs.Common.{arith, ◌≡◌, ◌≤◌, ◌^◌, pos, neg_ℤ, unsigned_abs}
use Rattle.std.proofs.lemmas.Int.{ints}
use Rattle.cell_laws.proofs.Ranges.{level_allows}
use Rattle.convex_cell.proofs.Ranges.{turned_back, above_back}
use Rattle.convex_cell.proofs.range.Range.cut.Goals as goal

pub returns-then-m-lt0-clause-both : goal.returns-then-m-lt0-clause-both
returns-then-m-lt0-clause-both c =
    λ t w p.
    let e = c.tightened-then-m-lt0.ensures.both (neg_ℤ t) w p in
    let f = turned_back c.args.m c.args.k c.args.strict t w c.requires.m_fits c.requires.k_fits in (
      λ h. (record { some = h.some; low = h.low; high = (e.0 h.high).0 }, f.0 (e.0 h.high).1),
      λ h. record {
        some = h.0.some;
        low =
            h.0.low;
        high = e.1 (h.0.high, f.1 h.1);
      },
    )

pub returns-then-is_above-clause-both : goal.returns-then-is_above-clause-both
returns-then-is_above-clause-both c =
    let flat : c.args.m ≡ pos 0 = omega (arith, ints) in
    let small : unsigned_abs c.args.k ≤ 2 ^ 118 = omega arith in
    let says = (above_back c.args.strict c.args.k small).0 (c.is_above.ensures.0 c.if-is_above.true) in
    λ t w p. (λ h. (h, (level_allows c.args.m c.args.k c.args.strict t w p flat).1 says), λ h. h.0)

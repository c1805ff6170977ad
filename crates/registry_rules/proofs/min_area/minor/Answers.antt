use Rattle.std.proofs.Common.{ℕ, ◌≤◌, ◌^◌, ◌-ℤ◌, ◌*ℤ◌, arith}
use Rattle.std.proofs.lemmas.Int.{to_z-of_z}
use mir.Syntax.{w64}
use Rattle.grid_plane.proofs.Numbers.{product_back, minor_fits, short_bound}
use Rattle.registry_rules.proofs.min_area.minor.Goals as goal

wide : (n : ℕ) → n ≤ 2 ^ 22 → n ≤ 2 ^ 23
wide n h = omega (arith, h)

pub overflow_sub-result : goal.overflow_sub-result
overflow_sub-result c =
    let r = c.requires in
    let a = wide _ r.a_fits in
    let b = wide _ r.b_fits in
    let h = wide _ r.c_fits in
    let d = wide _ r.d_fits in
    rw (product_back c.args.a c.args.b c.ranges.a c.ranges.b a b, product_back c.args.c c.args.d c.ranges.c c.ranges.d h d)
    (minor_fits c.args.a c.args.b c.args.c c.args.d a b h d)

pub returns-clause-value : goal.returns-clause-value
returns-clause-value c =
    let r = c.requires in
    let a = wide _ r.a_fits in
    let b = wide _ r.b_fits in
    let h = wide _ r.c_fits in
    let d = wide _ r.d_fits in
    rw (product_back c.args.a c.args.b c.ranges.a c.ranges.b a b, product_back c.args.c c.args.d c.ranges.c c.ranges.d h d)
    (to_z-of_z w64 (c.args.a *ℤ c.args.b -ℤ c.args.c *ℤ c.args.d) (minor_fits c.args.a c.args.b c.args.c c.args.d a b h d))

pub returns-clause-short : goal.returns-clause-short
returns-clause-short c =
    let r = c.requires in
    let a = wide _ r.a_fits in
    let b = wide _ r.b_fits in
    let h = wide _ r.c_fits in
    let d = wide _ r.d_fits in
    rw (
      product_back c.args.a c.args.b c.ranges.a c.ranges.b a b,
      product_back c.args.c c.args.d c.ranges.c c.ranges.d h d,
      to_z-of_z w64 (c.args.a *ℤ c.args.b -ℤ c.args.c *ℤ c.args.d) (minor_fits c.args.a c.args.b c.args.c c.args.d a b h d),
    )
    (short_bound c.args.a c.args.b c.args.c c.args.d a r.b_fits h r.d_fits)

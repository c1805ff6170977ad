use Rattle.std.proofs.Common.{◌≡◌, ℤ, to_z, of_z, w64, arith, ap, ◌∙◌, ◌*ℤ◌}
use Rattle.std.specs.Int.{w128}
use Rattle.std.proofs.lemmas.Int.{ints}
use Rattle.std.specs.Ordering.{is_lt, int_cmp}
use Rattle.std.specs.Int.RustNames.{int_lt}
use Rattle.column_cut.proofs.column.compare.Goals as goal

by_cmp : (u v : ℤ) → is_lt (int_cmp u v) ≡ int_lt u v
by_cmp u v = grind (arith, ints)

pub returns : goal.returns
returns c =
    let a = c.args.a.now in
    let b = c.args.b.now in
    let first : to_z w128 (of_z w128 c.product.result) ≡ c.product.result = omega (arith, ints) in
    let second : to_z w128 (of_z w128 c.product-2.result) ≡ c.product-2.result = omega (arith, ints) in
    let a_level : to_z w64 (of_z w64 a.level) ≡ a.level = omega (arith, ints) in
    let b_level : to_z w64 (of_z w64 b.level) ≡ b.level = omega (arith, ints) in
    let a_width : to_z w64 (of_z w64 a.width) ≡ a.width = omega (arith, ints) in
    let b_width : to_z w64 (of_z w64 b.width) ≡ b.width = omega (arith, ints) in
    let e : c.cmp.result ≡ int_cmp (b.level *ℤ a.width) (a.level *ℤ b.width) = rw (first, second, c.product.ensures, c.product-2.ensures, a_level, b_level, a_width, b_width) at c.cmp.ensures in
    ap is_lt e ∙ by_cmp (b.level *ℤ a.width) (a.level *ℤ b.width)

use Rattle.std.proofs.Common.{◌≡◌, ◌^◌, to_z, of_z, w64, arith}
use Rattle.std.proofs.lemmas.Int.{ints}
use Rattle.convex_cell.proofs.Ranges.{unsigned_abs-product}
use Rattle.column_cut.proofs.heights.product.Goals as goal

pub returns-clause-value : goal.returns-clause-value
returns-clause-value c =
    let m = unsigned_abs-product c.args.a c.args.v (2 ^ 23) (2 ^ 23) c.requires.a_fits c.requires.v_fits in
    let a : to_z w64 (of_z w64 c.args.a) ≡ c.args.a = omega (arith, ints) in
    let v : to_z w64 (of_z w64 c.from.result) ≡ c.args.v = omega (arith, ints) in
    rw (a, v) (omega (arith, ints))

pub returns-clause-fits : goal.returns-clause-fits
returns-clause-fits c =
    let m = unsigned_abs-product c.args.a c.args.v (2 ^ 23) (2 ^ 23) c.requires.a_fits c.requires.v_fits in
    let a : to_z w64 (of_z w64 c.args.a) ≡ c.args.a = omega (arith, ints) in
    let v : to_z w64 (of_z w64 c.from.result) ≡ c.args.v = omega (arith, ints) in
    rw (a, v) (omega (arith, ints))

use Rattle.std.proofs.Common.{◌≡◌, ◌≤◌, ◌^◌, ◌*ℤ◌, unsigned_abs, to_z, of_z, w32, w64, arith, sym, subst, refl}
use Rattle.std.proofs.lemmas.Int.{ints}
use Rattle.column_cut.proofs.Fails.{sum_fits, sum_back, sum_small}
use Rattle.column_cut.proofs.heights.value_at.Goals as goal

pub overflow_add-result-2 : goal.overflow_add-result-2
overflow_add-result-2 c = sum_fits c.product.result c.product-2.result c.c.result c.product.ensures.fits c.product-2.ensures.fits
    (subst (λ v. unsigned_abs v ≤ 2 ^ 46) (sym c.c.ensures.value) c.c.ensures.valid.c_fits)

pub returns-clause-value : goal.returns-clause-value
returns-clause-value c =
    let small = subst (λ v. unsigned_abs v ≤ 2 ^ 46) (sym c.c.ensures.value) c.c.ensures.valid.c_fits in
    let pa : to_z w64 (of_z w64 c.a.result) ≡ c.args.half.now.a = omega (arith, ints) in
    let px : to_z w32 (of_z w32 c.value.result) ≡ c.args.x.now = omega (arith, ints) in
    let pb : to_z w64 (of_z w64 c.b.result) ≡ c.args.half.now.b = omega (arith, ints) in
    let py : to_z w32 (of_z w32 c.value-2.result) ≡ c.args.y.now = omega (arith, ints) in
    let a : c.product.result ≡ c.args.half.now.a *ℤ c.args.x.now = rw (pa, px) at c.product.ensures.value in
    let b : c.product-2.result ≡ c.args.half.now.b *ℤ c.args.y.now = rw (pb, py) at c.product-2.ensures.value in
    rw (
      sum_back c.product.result c.product-2.result c.c.result c.product.ensures.fits c.product-2.ensures.fits small,
      ← a,
      ← b,
      c.c.ensures.value,
    ) refl

pub returns-clause-fits : goal.returns-clause-fits
returns-clause-fits c =
    let small = subst (λ v. unsigned_abs v ≤ 2 ^ 46) (sym c.c.ensures.value) c.c.ensures.valid.c_fits in
    rw (sum_back c.product.result c.product-2.result c.c.result c.product.ensures.fits c.product-2.ensures.fits small)
    (sum_small c.product.result c.product-2.result c.c.result c.product.ensures.fits c.product-2.ensures.fits small)

use Rattle.std.proofs.Common.{◌≡◌, ◌∙◌, pos, ◌+ℤ◌, ◌*ℤ◌}
use Rattle.convex_cell.proofs.Middles.{twice, sum_is, sum_back, sum_fits_i64}
use Rattle.convex_cell.proofs.trials.value_at.Goals as goal

pub overflow_add-result : goal.overflow_add-result
overflow_add-result c = sum_fits_i64 c.sum_at.result c.sum_at-2.result c.sum_at.ensures.fits c.sum_at-2.ensures.fits

pub returns : goal.returns
returns c =
    let h = c.args.half.now in
    let v = c.a.ensures.valid in
    let p = sum_is c.sum_at.result h.a c.a.result c.args.at.x h.c c.c.result v.a_fits c.args.at.x_fits v.c_fits c.a.ensures.value
    c.c.ensures.value c.sum_at.ensures.value in
    let q = sum_is c.sum_at-2.result h.b c.b.result c.args.at.y h.c c.c-2.result v.b_fits c.args.at.y_fits v.c_fits c.b.ensures.value
    c.c-2.ensures.value c.sum_at-2.ensures.value in
    let e : c.sum_at.result +ℤ c.sum_at-2.result ≡ h.a *ℤ c.args.at.x +ℤ h.b *ℤ c.args.at.y +ℤ h.c *ℤ pos 2 = rw (p, q)
    (twice h.a c.args.at.x h.b c.args.at.y h.c) in
    sum_back c.sum_at.result c.sum_at-2.result c.sum_at.ensures.fits c.sum_at-2.ensures.fits ∙ e

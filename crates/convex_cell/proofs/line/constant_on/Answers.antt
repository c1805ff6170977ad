use Rattle.std.proofs.Common.{◌≡◌, ◌≤◌, ◌^◌, ◌-ℤ◌, ◌*ℤ◌, unsigned_abs, arith, sym, subst, ℤ, ◌∙◌}
use Rattle.convex_cell.proofs.Ranges.{limit_back}
use Rattle.convex_cell.proofs.OnLines.{difference_read, difference_fits}
use Rattle.convex_cell.proofs.line.constant_on.Goals as goal

-- what the call gives
value : (c : goal.After-sum_of_products) → c.sum_of_products.result
    ≡ c.args.half.now.c *ℤ c.args.line.now.b -ℤ c.args.line.now.c *ℤ c.args.half.now.b
value c =
    let h = c.c.ensures.valid in
    let l = c.b.ensures.valid in
    difference_read _ _ _ _ _ _ _ _ _ h.c_fits l.b_fits l.c_fits h.b_fits c.c.ensures.value c.b.ensures.value c.c-2.ensures.value
    c.b-2.ensures.value c.sum_of_products.ensures

fits : (c : goal.After-sum_of_products) → unsigned_abs c.sum_of_products.result ≤ 2 ^ 70
fits c =
    let h = c.c.ensures.valid in
    let l = c.b.ensures.valid in
    difference_fits _ c.args.half.now.c c.args.line.now.b c.args.line.now.c c.args.half.now.b
    (2 ^ 46) (2 ^ 23) h.c_fits l.b_fits l.c_fits h.b_fits (value c)

pub returns-clause-value : goal.returns-clause-value
returns-clause-value c = limit_back c.sum_of_products.result (omega (arith, fits c)) ∙ value c

pub returns-clause-fits : goal.returns-clause-fits
returns-clause-fits c =
    subst (λ (z : ℤ). unsigned_abs z ≤ 2 ^ 70) (sym (limit_back c.sum_of_products.result (omega (arith, fits c)))) (fits c)

use Rattle.std.proofs.Common.{◌≡◌, ◌<ℤ◌, ◌+ℤ◌, ◌*ℤ◌, pos, arith, to_z, of_z, w32, w64, ◌∙◌}
use Rattle.std.specs.Int.{w128}
use Rattle.std.proofs.lemmas.Int.{ints}
use Rattle.std.proofs.lemmas.Bool.{false≢true}
use Rattle.plane_terms.specs.declared.op.Op.TheVariants.{Zero}
use Rattle.convex_cell.proofs.Ranges.{on_true}
use Rattle.column_cut.proofs.OpenSlots.{open_point}
use Rattle.column_cut.proofs.open.is_open.Goals as goal

pub returns : goal.returns
returns c =
    let l = c.args.left.now in
    let r = c.args.right.now in
    let o = c.args.over.now in
    let u = c.args.under.now in
    let x : to_z w32 (of_z w32 c.sum-x.result) ≡ l +ℤ r = omega (arith, ints) in
    let base_back : to_z w64 (of_z w64 c.base.result) ≡ c.base.result = omega (arith, ints) in
    let base_back_2 : to_z w64 (of_z w64 c.base-2.result) ≡ c.base-2.result = omega (arith, ints) in
    let over : to_z w64 (of_z w64 c.base.result) ≡ o.a *ℤ (l +ℤ r) +ℤ o.c *ℤ pos 2 = base_back ∙ (rw x at c.base.ensures.value) in
    let under : to_z w64 (of_z w64 c.base-2.result) ≡ u.a *ℤ (l +ℤ r) +ℤ u.c *ℤ pos 2 = base_back_2 ∙ (rw x at c.base-2.ensures.value) in
    let u_b : to_z w64 (of_z w64 c.b-2.result) ≡ u.b = omega (arith, ints) in
    let o_b : to_z w64 (of_z w64 c.b-3.result) ≡ o.b = omega (arith, ints) in
    let scaled_back : to_z w128 (of_z w128 c.product.result) ≡ c.product.result = omega (arith, ints) in
    let scaled_back_2 : to_z w128 (of_z w128 c.product-2.result) ≡ c.product-2.result = omega (arith, ints) in
    let first : to_z w128 (of_z w128 c.product.result) ≡ (o.a *ℤ (l +ℤ r) +ℤ o.c *ℤ pos 2) *ℤ u.b = scaled_back ∙ (rw (over, u_b) at c.product.ensures) in
    let second : to_z w128 (of_z w128 c.product-2.result) ≡ (u.a *ℤ (l +ℤ r) +ℤ u.c *ℤ pos 2) *ℤ o.b = scaled_back_2 ∙ (rw (under, o_b) at c.product-2.ensures) in
    let area_over : ¬ (o.op ≡ Zero) = λ e. false≢true (rw (c.op.ensures, e) at c.if-eq.ensures) in
    let area_under : ¬ (u.op ≡ Zero) = λ e. false≢true (rw (c.op-else-eq.ensures, e) at c.if-eq-2.ensures) in
    let rising : pos 0 <ℤ o.b = omega (arith, ints) in
    let falling : u.b <ℤ pos 0 = omega (arith, ints) in
    on_true c.is_less.result _ _ (λ e. open_point l r o u c.requires area_over area_under rising falling (rw (first, second) at e)) c.is_less.ensures

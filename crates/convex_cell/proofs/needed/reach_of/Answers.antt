use Rattle.std.proofs.Common.{◌≤◌, ◌^◌, unsigned_abs, pos, negsuc, ◌*ℤ◌, ◌≤ℤ◌, ◌<ℤ◌, to_z, of_z, w64, arith}
use Rattle.std.proofs.lemmas.Int.{ints}
use Rattle.convex_cell.proofs.needed.reach_of.Goals as goal

pub returns-clause-sound : goal.returns-clause-sound
returns-clause-sound c =
    let from = to_z w64 (of_z w64 c.left_of-from.result) in
    let to = to_z w64 (of_z w64 c.right_of-to.result) in
    let near : unsigned_abs from ≤ 2 ^ 23 = c.if-not-is_small.ensures in
    let close : unsigned_abs to ≤ 2 ^ 23 = c.if-not-is_small-2.ensures in
    let below : (pos 2 *ℤ from) ≤ℤ c.args.span.from = omega (arith, ints) in
    let above : c.args.span.to ≤ℤ (pos 2 *ℤ to) = omega (arith, ints) in
    let over : negsuc 562949953421311 <ℤ from = omega (arith, ints) in
    let under : to <ℤ pos 562949953421312 = omega (arith, ints) in
    λ z w i. record { after = i.after.at from over below; before = i.before.at to under above }

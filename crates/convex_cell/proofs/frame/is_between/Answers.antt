use Rattle.std.proofs.Common.{◌≡◌, Bool, true, ◌≤ℤ◌, to_z, of_z, w64, arith, ℤ, ℕ}
use lib.Signed.{le_z}
use Rattle.std.proofs.lemmas.Int.{ints}
use Rattle.number_laws.proofs.Ring.{int_tests}
use Rattle.convex_cell.specs.Span.{InSpan}
use Rattle.convex_cell.specs.Frame.{IsBetween}
use Rattle.convex_cell.proofs.Codes.{widened}
use Rattle.convex_cell.proofs.Ranges.{on_true_if}
use Rattle.convex_cell.proofs.Frames.{between}
use Rattle.convex_cell.proofs.frame.is_between.Goals as goal

pub returns : goal.returns
returns c =
    let e = c.args.ends in
    let r = c.in-Some.reach in
    let from = widened e.from c.from.result c.requires.from_fits c.from.ensures in
    let to = widened e.to c.from-2.result c.requires.to_fits c.from-2.ensures in
    let test : Bool = le_z (to_z w64 (of_z w64 r.to)) (to_z w64 (of_z w64 c.from-2.result)) in
    let low : e.from ≤ℤ r.from = omega (arith, ints) in
    on_true_if test ((t : ℤ) → (w : ℕ) → InSpan c.args.span t w → IsBetween e t w) (λ (high : test ≡ true) t w i. between e r t w low
    (omega (arith, ints, int_tests)) (c.in-Some.ensures.sound t w i))

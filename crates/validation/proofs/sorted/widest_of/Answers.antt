use Rattle.std.proofs.Common.{◌≡◌, ◌∙◌, ◌-ℤ◌, arith, to_z, of_z, w32}
use Rattle.std.proofs.lemmas.Int.{ints}
use Rattle.validation.proofs.TooFar.{widest_more}
use Rattle.validation.proofs.sorted.widest_of.Goals as goal

pub loop-s-init : goal.loop-s-init
loop-s-init c = record { enough = λ k d l h. absurd (omega arith); least = omega (arith, ints); greatest = omega (arith, ints) }

pub loop-s-preserved : goal.loop-s-preserved
loop-s-preserved c =
    let w = c.max-widest.result in
    let v = to_z w32 c.loop-s.widest-bits in
    let d = to_z w32 (of_z w32 (to_z w32 (of_z w32 c.x1.result) -ℤ to_z w32 (of_z w32 c.x0.result))) in
    let kept : to_z w32 (of_z w32 w) ≡ w = omega (arith, ints) in
    widest_more c.args.rects.now c.loop-s.s-index c.s-item.result v d (to_z w32 (of_z w32 w)) (kept ∙ c.max-widest.ensures)
    c.loop-s-test.true c.s-item.is c.loop-s.invariant (omega (arith, ints)) (omega (arith, ints))

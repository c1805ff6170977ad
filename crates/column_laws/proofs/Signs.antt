-- Signs of products with a factor that is below zero.
use Rattle.std.proofs.Common.{suc, zero, ◌<◌, ℤ, pos, negsuc, ◌*ℤ◌, ◌≤ℤ◌, ◌<ℤ◌, arith}
use Rattle.std.proofs.lemmas.Int.{ints}

pub under_unscaled : (a v : ℤ) → pos 0 <ℤ a → (a *ℤ v) <ℤ pos 0 → v <ℤ pos 0
under_unscaled (pos a) (pos v) p h = absurd (omega (arith, ints))
under_unscaled (pos a) (negsuc v) p h = omega (arith, ints)
under_unscaled (negsuc a) v p h = absurd (omega (arith, ints))

pub under_scaled : (a v : ℤ) → pos 0 <ℤ a → v <ℤ pos 0 → (a *ℤ v) <ℤ pos 0
under_scaled (pos a) (negsuc v) h k =
    let p : 0 < a = omega (arith, ints) in
    omega (arith, ints)
under_scaled a v h k = omega (arith, ints)

pub most_scaled : (a v : ℤ) → a ≤ℤ pos 0 → pos 0 ≤ℤ v → (a *ℤ v) ≤ℤ pos 0
most_scaled (pos zero) v h k = omega (arith, ints)
most_scaled (pos (suc a)) v h k = absurd (omega (arith, ints))
most_scaled (negsuc a) (pos v) h k = omega (arith, ints)
most_scaled (negsuc a) (negsuc v) h k = absurd (omega (arith, ints))

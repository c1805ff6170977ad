-- The order of whole numbers: signs and order of their products, sums and differences, and what else a proof needs of it.
use Rattle.std.proofs.Common.{◌≡◌, false, ℕ, suc, zero, ◌+◌, ◌*◌, ◌<◌, ◌≤◌, ℤ, pos, negsuc, ◌+ℤ◌, ◌-ℤ◌, ◌*ℤ◌, neg_ℤ, ◌≤ℤ◌, ◌<ℤ◌, arith, refl, ◌⊎◌}
use Rattle.std.specs.Ordering.{int_cmp, is_lt}
use Rattle.std.proofs.lemmas.Int.{ints}
use Rattle.std.proofs.Math.Nat.{le_of_mul-le-mul_right, mul-le-mul_right, mul-pos, mul-lt-mul_of_pos_right}
use borrow.Author.Differences.{up, down}

-- a common positive factor may be taken away
pub le_from_scaled : (a b : ℤ) (w : ℕ) → 0 < w → (a *ℤ pos w) ≤ℤ (b *ℤ pos w) → a ≤ℤ b
le_from_scaled a b w p h =
    let k : (up a + down b) * w ≤ (up b + down a) * w = omega (arith, ints) in
    let m : up a + down b ≤ up b + down a = le_of_mul-le-mul_right k p in
    omega (arith, ints)

pub scaled_le : (a b : ℤ) (w : ℕ) → a ≤ℤ b → (a *ℤ pos w) ≤ℤ (b *ℤ pos w)
scaled_le a b w h =
    let m : up a + down b ≤ up b + down a = omega (arith, ints) in
    let k : (up a + down b) * w ≤ (up b + down a) * w = mul-le-mul_right w m in
    omega (arith, ints)

-- the product of two numbers that are not negative
pub product_at_least : (a b : ℤ) → pos 0 ≤ℤ a → pos 0 ≤ℤ b → pos 0 ≤ℤ (a *ℤ b)
product_at_least (pos a) (pos b) h k = omega (arith, ints)
product_at_least a b h k = omega (arith, ints)

pub sum_at_least : (a b : ℤ) → pos 0 ≤ℤ a → pos 0 ≤ℤ b → pos 0 ≤ℤ (a +ℤ b)
sum_at_least a b h k = omega (arith, ints)

pub turned_at_least : (a : ℤ) → a ≤ℤ pos 0 → pos 0 ≤ℤ neg_ℤ a
turned_at_least a h = omega (arith, ints)

pub turned_over : (a : ℤ) → a <ℤ pos 0 → pos 0 <ℤ neg_ℤ a
turned_over a h = omega (arith, ints)

pub difference_over : (a b : ℤ) → a <ℤ b → pos 0 <ℤ (b -ℤ a)
difference_over a b h = omega (arith, ints)

pub le_trans_ℤ : (a b c : ℤ) → a ≤ℤ b → b ≤ℤ c → a ≤ℤ c
le_trans_ℤ a b c h k = omega (arith, ints)

pub product_over : (a b : ℤ) → pos 0 <ℤ a → pos 0 <ℤ b → pos 0 <ℤ (a *ℤ b)
product_over (pos a) (pos b) h k =
    let p : 0 < a = omega (arith, ints) in
    let q : 0 < b = omega (arith, ints) in
    omega (arith, ints, mul-pos p q)
product_over a b h k = omega (arith, ints)

-- a positive factor may be taken away
pub over_unscaled : (a v : ℤ) → pos 0 <ℤ a → pos 0 <ℤ (a *ℤ v) → pos 0 <ℤ v
over_unscaled (pos a) (pos zero) p h = absurd (omega (arith, ints))
over_unscaled (pos a) (pos (suc v)) p h = omega (arith, ints)
over_unscaled (pos a) (negsuc v) p h = absurd (omega (arith, ints))
over_unscaled (negsuc a) v p h = absurd (omega (arith, ints))

pub zero_unscaled : (a v : ℤ) → pos 0 <ℤ a → a *ℤ v ≡ pos 0 → v ≡ pos 0
zero_unscaled (pos zero) v p h = absurd (omega (arith, ints))
zero_unscaled (pos (suc a)) (pos zero) p h = refl
zero_unscaled (pos (suc a)) (pos (suc v)) p h = absurd (omega (arith, ints))
zero_unscaled (pos (suc a)) (negsuc v) p h = absurd (omega (arith, ints))
zero_unscaled (negsuc a) v p h = absurd (omega (arith, ints))

-- two numbers times w
pub lt_scaled : (a b : ℤ) (w : ℕ) → 0 < w → a <ℤ b → (a *ℤ pos w) <ℤ (b *ℤ pos w)
lt_scaled a b w p h =
    let m : up a + down b < up b + down a = omega (arith, ints) in
    let k : (up a + down b) * w < (up b + down a) * w = mul-lt-mul_of_pos_right m p in
    omega (arith, ints)

-- from the scaled ones, by cases on the order of a and b
pub cases_order_ℤ : (a b : ℤ) → (a <ℤ b) ⊎ (b ≤ℤ a)
cases_order_ℤ a b = grind (arith, ints)

-- a positive number as a natural
pub natural : (z : ℤ) → pos 0 <ℤ z → (n : ℕ) × (0 < n) × (z ≡ pos n)
natural (pos n) h = (n, omega (arith, ints), refl)
natural (negsuc n) h = absurd (omega (arith, ints))

pub least_unscaled : (a v : ℤ) → pos 0 <ℤ a → pos 0 ≤ℤ (a *ℤ v) → pos 0 ≤ℤ v
least_unscaled (pos a) (pos v) p h = omega (arith, ints)
least_unscaled (pos a) (negsuc v) p h = absurd (omega (arith, ints))
least_unscaled (negsuc a) v p h = absurd (omega (arith, ints))

pub least_under : (a v : ℤ) → a ≤ℤ pos 0 → v ≤ℤ pos 0 → pos 0 ≤ℤ (a *ℤ v)
least_under (pos zero) v h k = omega (arith, ints)
least_under (pos (suc a)) v h k = absurd (omega (arith, ints))
least_under (negsuc a) (pos zero) h k = omega (arith, ints)
least_under (negsuc a) (pos (suc v)) h k = absurd (omega (arith, ints))
least_under (negsuc a) (negsuc v) h k = omega (arith, ints)

pub square_least : (v : ℤ) → pos 0 ≤ℤ (v *ℤ v)
square_least (pos v) = omega (arith, ints)
square_least (negsuc v) = omega (arith, ints)

-- what a comparison says that does not tell less
pub no_less : (a b : ℤ) → is_lt (int_cmp b a) ≡ false → a ≤ℤ b
no_less a b e = grind (arith, ints)

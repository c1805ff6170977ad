-- Numbers of the grid as the code passes and computes them.
use Rattle.std.proofs.Common.{◌≡◌, ◌≤◌, ◌^◌, ℤ, pos, ◌+ℤ◌, ◌-ℤ◌, ◌*ℤ◌, ◌/◌, ◌%◌, arith, unsigned_abs, lit<, refl, ◌∙◌}
use Rattle.std.proofs.Common.{Bool, nat_eq, IsTrue, ℕ, neg_ℤ}
use Rattle.std.proofs.lemmas.Int.{ints, to_z-of_z, fits_signed_mul, fits_signed_from_abs, unsigned_abs-mul}
use Rattle.std.proofs.Math.Nat.{mul-le-mul, lt_of_le_of_lt}
use mir.Syntax.{w16, w32, w64}
use mir.Val.{SFits, to_z, of_z}
use Rattle.plane_terms.specs.Point.{InReach}
use Rattle.plane_terms.specs.HalfPlane.{HalfPlane}
use Rattle.grid_plane.specs.Constants.{constant_of}
use Rattle.plane_terms.specs.declared.op.Op.{Op}

pub reach_read : (v : ℤ) → SFits w64 v → InReach (to_z w64 (of_z w64 v)) → InReach v
reach_read v f h = rw (to_z-of_z w64 v f) at h

pub narrowed : (v : ℤ) → InReach v → to_z w32 (of_z w32 (to_z w64 (of_z w64 v))) ≡ v
narrowed v h = omega (arith, ints)

-- a factor of a half-plane, made narrow
pub factor_kept : (v : ℤ) → unsigned_abs v ≤ 2 ^ 23 → to_z w32 (of_z w32 (to_z w64 (of_z w64 v))) ≡ v
factor_kept v small = omega (arith, ints)

pub product_back : (a b : ℤ) → SFits w64 a → SFits w64 b → unsigned_abs a ≤ 2 ^ 23 → unsigned_abs b ≤ 2 ^ 23
    → to_z w64 (of_z w64 (to_z w64 (of_z w64 a) *ℤ to_z w64 (of_z w64 b))) ≡ a *ℤ b
product_back a b f g h k = rw (to_z-of_z w64 a f, to_z-of_z w64 b g)
    (to_z-of_z w64 (a *ℤ b) (fits_signed_mul w64 a b (2 ^ 23) (2 ^ 23) h k (lit< tt)))

product_bound : (a b : ℤ) → unsigned_abs a ≤ 2 ^ 23 → unsigned_abs b ≤ 2 ^ 23 → unsigned_abs (a *ℤ b) ≤ 2 ^ 46
product_bound a b h k = rw (unsigned_abs-mul a b) (mul-le-mul h k)

less_bound : (u v : ℤ) → unsigned_abs u ≤ 2 ^ 46 → unsigned_abs v ≤ 2 ^ 46 → unsigned_abs (u -ℤ v) ≤ 2 ^ 47
less_bound u v h k = omega (arith, ints)

pub minor_fits : (a b c d : ℤ) → unsigned_abs a ≤ 2 ^ 23 → unsigned_abs b ≤ 2 ^ 23 → unsigned_abs c ≤ 2 ^ 23 → unsigned_abs d ≤ 2 ^ 23
    → SFits w64 (a *ℤ b -ℤ c *ℤ d)
minor_fits a b c d h k i j = fits_signed_from_abs w64 (a *ℤ b -ℤ c *ℤ d)
    (lt_of_le_of_lt (less_bound (a *ℤ b) (c *ℤ d) (product_bound a b h k) (product_bound c d i j)) (lit< tt))

-- a constant above the least one, and the high part as it is computed of that
abbrev pub raised : ℤ → ℕ
raised c = unsigned_abs (to_z w64 (of_z w64 (to_z w64 (of_z w64 c) +ℤ pos 70368744177664)))

abbrev pub kept_high : ℕ → ℤ
kept_high n = to_z w16 (of_z w16 (to_z w32 (of_z w32 (to_z w32 (n / 4294967296) -ℤ pos 16384))))

kept_high_is : (n : ℕ) → n ≤ 2 ^ 47 → kept_high n ≡ pos (n / 4294967296) -ℤ pos 16384
kept_high_is n room = omega (arith, ints)

-- a test of two numbers that were passed
pub through : (f : ℤ → ℤ → Bool) (r : Bool) (a b u v : ℤ) → SFits w64 a → SFits w64 b
    → r ≡ f (to_z w64 (of_z w64 a)) (to_z w64 (of_z w64 b)) → a ≡ u → b ≡ v → r ≡ f u v
through f r a b u v h k e i j = e ∙ rw (to_z-of_z w64 a h, to_z-of_z w64 b k, i, j) refl

pub bits_zero : (r : ℤ) → SFits w64 r → IsTrue (nat_eq (of_z w64 r) 0) → r ≡ pos 0
bits_zero r f h = grind (arith, ints)

pub zero_bits : (r : ℤ) → r ≡ pos 0 → IsTrue (nat_eq (of_z w64 r) 0)
zero_bits r e = rw e refl

pub short_bound : (a b c d : ℤ) → unsigned_abs a ≤ 2 ^ 23 → unsigned_abs b ≤ 2 ^ 22 → unsigned_abs c ≤ 2 ^ 23 → unsigned_abs d ≤ 2 ^ 22
    → unsigned_abs (a *ℤ b -ℤ c *ℤ d) ≤ 2 ^ 46
short_bound a b c d h k i j = less (a *ℤ b) (c *ℤ d) (rw (unsigned_abs-mul a b) (mul-le-mul h k))
    (rw (unsigned_abs-mul c d) (mul-le-mul i j))
  where
    less : (u v : ℤ) → unsigned_abs u ≤ 2 ^ 45 → unsigned_abs v ≤ 2 ^ 45 → unsigned_abs (u -ℤ v) ≤ 2 ^ 46
    less u v h k = omega (arith, ints)

-- a number of a half, read again
pub read_back : (z : ℤ) → unsigned_abs z ≤ 2 ^ 46 → to_z w64 (of_z w64 z) ≡ z
read_back z h = to_z-of_z w64 z (fits_signed_from_abs w64 z (lt_of_le_of_lt h (lit< tt)))

pub neg_back : (z v : ℤ) → unsigned_abs z ≤ 2 ^ 46 → z ≡ v → to_z w64 (of_z w64 (pos 0 -ℤ to_z w64 (of_z w64 z))) ≡ neg_ℤ v
neg_back z v h e = omega (arith, ints)

-- the constant that is kept in two parts is the one that was given
pub constant_kept : (c : ℤ) → unsigned_abs c ≤ 2 ^ 46 → constant_of (kept_high (raised c)) (raised c % 4294967296) ≡ c
constant_kept c small =
    let up : pos (raised c) ≡ c +ℤ pos (2 ^ 46) = omega (arith, ints) in
    let room : raised c ≤ 2 ^ 47 = omega (arith, ints) in
    rw (kept_high_is (raised c) room) (omega (arith, ints, up))

pub neg_turned : (u v : ℤ) → neg_ℤ (u -ℤ v) ≡ v -ℤ u
neg_turned u v = omega (arith, ints)

pub more_fits : (n : ℕ) → n ≤ 2 ^ 23 → n ≤ 2 ^ 46
more_fits n h = omega (arith, h)

pub same_half : {a b c u v w : ℤ} (op : Op) → a ≡ u → b ≡ v → c ≡ w
    → ◌≡◌ {A = HalfPlane} (record { a = a; b = b; c = c; op = op }) (record { a = u; b = v; c = w; op = op })
same_half op e f g = rw (e, f, g) refl

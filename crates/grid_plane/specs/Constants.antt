-- The constant of a half-plane, as it is kept in two parts.
--
-- constant_of high low     the constant: `high` steps of 2^32 and `low` more
-- high_of c, low_of c      its parts: the quotient by 2^32, rounded down, and what is left
use Rattle.std.specs.Prelude.{◌≡◌, ℕ, ℤ, pos, negsuc, ◌+◌, ◌-◌, ◌*◌, ◌<◌, ◌^◌, ◌+ℤ◌, ◌*ℤ◌, unsigned_abs}
use Rattle.std.specs.Int.{int_div_euclid, int_rem_euclid}
use Rattle.std.proofs.Common.{arith}
use Rattle.std.proofs.lemmas.Int.{ints}

abbrev pub constant_of : ℤ → ℕ → ℤ
constant_of high low = high *ℤ pos 4294967296 +ℤ pos low

abbrev pub high_of : ℤ → ℤ
high_of c = int_div_euclid c (pos 4294967296)

abbrev pub low_of : ℤ → ℕ
low_of c = unsigned_abs (int_rem_euclid c (pos 4294967296))

-- the parts of a constant of two parts are those
pub parts_back : (high : ℤ) (low : ℕ) → low < 2 ^ 32 → (high_of (constant_of high low) ≡ high) × (low_of (constant_of high low) ≡ low)
parts_back (pos h) low small = (omega (arith, ints), omega (arith, ints))
parts_back (negsuc h) low small =
    let below : constant_of (negsuc h) low ≡ negsuc (h * 4294967296 + (4294967295 - low)) = omega (arith, ints) in
    rw below (omega (arith, ints), omega (arith, ints))

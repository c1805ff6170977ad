use Rattle.std.proofs.Common.{◌≡◌, refl, zero, suc, w8, ℤ, pos, negsuc, to_z, of_z, arith}
use Rattle.std.specs.Prelude.{int_le}
use Rattle.std.specs.Int.{int_signum}
use Rattle.std.proofs.lemmas.Int.{ints}
use lib.Signed.{le_z}
use Rattle.rule_loops.proofs.stacked.is_on_right.Goals as goal

-- a sign is at most 0 where the number is
by_sign : (z r : ℤ) → r ≡ int_signum z → le_z (to_z w8 (of_z w8 r)) (pos 0) ≡ int_le z (pos 0)
by_sign (pos zero) r e = rw e refl
by_sign (pos (suc n)) r e = let k : r ≡ pos 1 = omega (arith, ints) in rw k (grind (arith, ints))
by_sign (negsuc n) r e = rw e refl

pub returns : goal.returns
returns c = by_sign _ c.side.result c.side.ensures

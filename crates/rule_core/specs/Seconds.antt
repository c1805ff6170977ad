-- The second side of a rule, by its class.
--
-- given s          the side s, where its class is not 0
-- given_back o     of what is given, or no side, that is given
use Rattle.std.specs.Prelude.{◌≡◌, ℕ, ◌<◌, Option, None, Some, IfSome, unwrap_or}
use Rattle.std.proofs.Common.{zero, suc, refl}
use Rattle.std.proofs.Math.Nat.{not-suc-le-zero}
use Rattle.topology_terms.specs.Feature.{Side, no_side}

abbrev pub given_by : ℕ → Side → Option Side
given_by zero s = None
given_by (suc n) s = Some s

abbrev pub given : Side → Option Side
given s = given_by s.class s

given_same : (n : ℕ) (s : Side) → 0 < n → given_by n s ≡ Some s
given_same zero s p = absurd (not-suc-le-zero p)
given_same (suc n) s p = refl

pub given_back : (o : Option Side) → IfSome o (λ s. 0 < s.class) → given (unwrap_or o no_side) ≡ o
given_back None p = refl
given_back (Some s) p = given_same s.class s p

-- A number that is not 0, in a type of such numbers.
--
-- given_by make n      what is made of n and of the proof that it is above 0; None of 0
-- given_same           it is made so by whatever proof
use Rattle.std.specs.Prelude.{◌≡◌, ℕ, ◌<◌, Option, None, Some}
use Rattle.std.proofs.Common.{zero, suc}
use Rattle.std.proofs.Math.Nat.{zero-lt-suc, not-suc-le-zero}
use Rattle.std.proofs.Math.Bridge.{le_prop}

abbrev pub given_by : {T : Type 0} → ((n : ℕ) → 0 < n → T) → ℕ → Option T
given_by make zero = None
given_by make (suc n) = Some (make (suc n) (zero-lt-suc n))

pub given_same : {T : Type 0} (make : (n : ℕ) → 0 < n → T) (n : ℕ) (p : 0 < n) → given_by make n ≡ Some (make n p)
given_same make zero p = absurd (not-suc-le-zero p)
given_same make (suc n) p = λ i. Some (make (suc n) (le_prop (zero-lt-suc n) p i))

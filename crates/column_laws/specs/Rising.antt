-- Ascending lists of whole numbers.
--
-- IsRising xs        each is below all later ones
use Rattle.std.specs.Prelude.{ℤ, ◌<ℤ◌, List}
use Rattle.plane_terms.specs.Lists.{EveryPair}

abbrev pub IsRising : List ℤ → Type 0
IsRising xs = EveryPair (λ (x y : ℤ). x <ℤ y) xs

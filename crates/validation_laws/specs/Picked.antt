-- Numbers picked along a list.
--
-- ArePicked P number xs before out     out has the numbers of before and those of the elements of xs of which P holds, and no others
use Rattle.std.specs.Prelude.{◌≡◌, ◌↔◌, ◌⊎◌, ℕ, List, Contains}
use Rattle.plane_terms.specs.Lists.{SomeOf}

abbrev pub ArePicked : {X : Type 0} → (X → Type 0) → (X → ℕ) → List X → List ℕ → List ℕ → Type 0
ArePicked {X} P number xs before out = (a : ℕ) → Contains out a ↔ (Contains before a ⊎ SomeOf (λ (x : X). (number x ≡ a) × P x) xs)

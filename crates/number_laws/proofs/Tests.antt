-- What the tests of whole numbers decide.
use Rattle.std.proofs.Common.{ℤ, ◌≡◌, ◌≤ℤ◌, ◌<ℤ◌, Bool, false, IsTrue, ◌↔◌, int_le, arith, sym, ◌∙◌}
use Rattle.std.specs.Prelude.{int_lt}
use Rattle.std.specs.Bool.{Decides}
use Rattle.std.proofs.lemmas.Int.{ints}
use Rattle.number_laws.proofs.Ring.{int_tests}

pub Decides-int_le : (a b : ℤ) → Decides (int_le a b) (a ≤ℤ b)
Decides-int_le a b = (λ e. omega (arith, ints), λ h. omega (arith, ints, int_tests))

pub Decides-int_lt : (a b : ℤ) → Decides (int_lt a b) (a <ℤ b)
Decides-int_lt a b = (λ e. omega (arith, ints), λ h. omega (arith, ints, int_tests))

pub int_le_false : (a b : ℤ) → b <ℤ a → int_le a b ≡ false
int_le_false a b h = grind (arith, ints)

pub int_lt_false : (a b : ℤ) → b ≤ℤ a → int_lt a b ≡ false
int_lt_false a b h = grind (arith, ints)

-- a result that is the test says what the test decides
pub says : {P : Type 0} (r t : Bool) → r ≡ t → Decides t P → IsTrue r ↔ P
says r t e d = (λ h. d.0 (sym e ∙ h), λ p. e ∙ d.1 p)

-- Whether a handle is among some, as a test and in words.
use Rattle.std.proofs.Common.{◌≡◌, ◌⊎◌, inl, inr, ℕ, arith, true, nat_eq, List, get_or, Contains}
use Rattle.std.specs.List.{list_any}
use Rattle.std.proofs.lemmas.Bool.{cases_Bool}
use Rattle.std.proofs.lemmas.Bool.Decides.{nat_tests}
use Rattle.std.proofs.lemmas.List.Folds.{list_any_at}
use Rattle.std.proofs.lemmas.Map.Views.{Contains-from_any}

same_number : (m n : ℕ) → nat_eq m n ≡ true → m ≡ n
same_number m n t = grind (arith, nat_tests)

own_number : (m n : ℕ) → n ≡ m → nat_eq m n ≡ true
own_number m n e = grind (arith, nat_tests)

pub within : (selected : List ℕ) (a : ℕ) → list_any (nat_eq a) selected ≡ true → Contains selected a
within selected a t = Contains-from_any same_number a selected t

pub among : (selected : List ℕ) (a : ℕ) → Contains selected a → list_any (nat_eq a) selected ≡ true
among selected a c = list_any_at (nat_eq a) selected c.0 a c.1 (own_number a (get_or selected c.0 a) c.2)

pub selected_or_not : (selected : List ℕ) (a : ℕ) → Contains selected a ⊎ ¬ (Contains selected a)
selected_or_not selected a = elim (cases_Bool (list_any (nat_eq a) selected)) [
  | inl t ↦ inl (within selected a t)
  | inr t ↦ inr (λ c. let u = among selected a c in cc)
]

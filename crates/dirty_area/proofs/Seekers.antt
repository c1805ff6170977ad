-- Whether a list has an element that passes a test, by the first place of one.
use Rattle.std.proofs.Common.{◌≡◌, refl, sym, ℕ, ◌≤◌, Bool, true, false, not, List, length, get_or, arith, Some, None}
use Rattle.std.specs.Prelude.{nat_lt}
use Rattle.std.specs.List.{list_any, position, position_or_len}
use Rattle.std.proofs.lemmas.Bool.{not-true, ltb-false}
use Rattle.std.proofs.lemmas.List.Folds.{list_any_at, list_any_none}
use Rattle.std.proofs.lemmas.List.Quantifiers.{position-Some}
use Rattle.std.proofs.lemmas.List.Sums.{prefix_len_passes}

pub at_place : {X : Type 0} (p : X → Bool) (xs : List X) (i : ℕ) (d : X) → position p xs ≡ Some i → true ≡ list_any p xs
at_place p xs i d e = let a = position-Some p xs i d e in sym (list_any_at p xs i d a.0 a.1)

pub at_none : {X : Type 0} (p : X → Bool) (xs : List X) → position p xs ≡ None → false ≡ list_any p xs
at_none {X} p xs e = sym (list_any_none p xs (λ k d l. not-true (p (get_or xs k d))
    (prefix_len_passes (λ x. not (p x)) xs k d (let h = beyond (nat_lt (position_or_len p xs) (length xs)) refl in omega (arith, h, l)))))
  where
    beyond : (b : Bool) → nat_lt (position_or_len p xs) (length xs) ≡ b → length xs ≤ position_or_len p xs
    beyond true t = absurd cc
    beyond false t = ltb-false (position_or_len p xs) (length xs) t

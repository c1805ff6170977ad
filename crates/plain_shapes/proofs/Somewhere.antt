-- What `any` answered, over the elements.
use Rattle.std.specs.List.{HoldsAt, AllWithin}
use Rattle.std.proofs.lemmas.Bool.{false≢true}
use Rattle.std.proofs.Common.{IsTrue, MatchBool, Bool, true, false, refl, ◌↔◌, inl, inr, ℕ, List, [], ◌∷◌, length, get_or, zero, suc, arith, ◌<◌}
use Rattle.plane_terms.specs.Lists.{SomeOf}

-- what an element has, some element has
some_at : {A : Type 0} (P : A → Type 0) (xs : List A) (k : ℕ) → k < length xs → HoldsAt P xs k → SomeOf P xs
some_at P [] k l h = absurd (omega arith)
some_at P (x ∷ xs) zero l h = inl (h x)
some_at P (x ∷ xs) (suc k) l h = inr (some_at P xs k (omega arith) h)

-- where no element has it, none does
none_of : {A : Type 0} (P : A → Type 0) (xs : List A) → ((k : ℕ) (d : A) → k < length xs → ¬ (P (get_or xs k d))) → ¬ (SomeOf P xs)
none_of P [] n h = h
none_of P (x ∷ xs) n h = elim h [
  | inl a ↦ n 0 x (omega arith) a
  | inr a ↦ none_of P xs (λ k d l. n (suc k) d (omega arith)) a
]

pub some_is : {A : Type 0} (P : A → Type 0) (r : Bool) (xs : List A) → MatchBool r ((k : ℕ) × (k < length xs) × HoldsAt P xs k)
    (AllWithin (λ x. ¬ (P x)) xs 0 (length xs)) → IsTrue r ↔ SomeOf P xs
some_is P true xs h = ((λ _. some_at P xs h.0 h.1 h.2), (λ _. refl))
some_is P false xs h = ((λ t. absurd (false≢true t)), (λ s. absurd (none_of P xs (λ k d l. h k d (omega arith) l) s)))

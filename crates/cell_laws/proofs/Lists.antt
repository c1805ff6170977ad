-- What holds of lists that are put together.
use Rattle.std.proofs.Common.{◌↔◌, List, [], ◌∷◌, ◌++◌, ◌⊎◌, inl, inr, map}
use Rattle.std.specs.List.{AllByRecursion}
use Rattle.plane_terms.specs.Lists.{SomeOf}

pub all_append : {A : Type 0} (P : A → Type 0) (xs ys : List A)
    → AllByRecursion P (xs ++ ys) ↔ (AllByRecursion P xs × AllByRecursion P ys)
all_append P [] ys = (λ h. (tt, h), λ h. h.1)
all_append P (x ∷ xs) ys =
    let e = all_append P xs ys in
    (λ h. let a = e.0 h.1 in ((h.0, a.0), a.1), λ h. (h.0.0, e.1 (h.0.1, h.1)))

pub some_append : {A : Type 0} (P : A → Type 0) (xs ys : List A) → SomeOf P (xs ++ ys) ↔ (SomeOf P xs ⊎ SomeOf P ys)
some_append P [] ys = (λ h. inr h, λ h. elim h [ inl a ↦ absurd a | inr b ↦ b ])
some_append P (x ∷ xs) ys =
    let e = some_append P xs ys in (
      λ h. elim h [ inl a ↦ inl (inl a) | inr b ↦ elim (e.0 b) [ inl c ↦ inl (inr c) | inr d ↦ inr d ] ],
      λ h. elim h [ inl a ↦ elim a [ inl b ↦ inl b | inr c ↦ inr (e.1 (inl c)) ] | inr d ↦ inr (e.1 (inr d)) ],
    )

pub some_map : {A B : Type 0} (P : B → Type 0) (f : A → B) (xs : List A) → SomeOf P (map {A = A} f xs) ↔ SomeOf (λ x. P (f x)) xs
some_map P f [] = (λ h. h, λ h. h)
some_map P f (x ∷ xs) =
    let e = some_map P f xs in
    (λ h. elim h [ inl a ↦ inl a | inr b ↦ inr (e.0 b) ], λ h. elim h [ inl a ↦ inl a | inr b ↦ inr (e.1 b) ])

pub some_same : {A : Type 0} (P Q : A → Type 0) → ((x : A) → P x ↔ Q x) → (xs : List A) → SomeOf P xs ↔ SomeOf Q xs
some_same P Q f [] = (λ h. h, λ h. h)
some_same P Q f (x ∷ xs) =
    let e = some_same P Q f xs in
    (λ h. elim h [ inl a ↦ inl ((f x).0 a) | inr b ↦ inr (e.0 b) ], λ h. elim h [ inl a ↦ inl ((f x).1 a) | inr b ↦ inr (e.1 b) ])

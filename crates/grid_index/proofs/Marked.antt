-- Numbers by marks: a list that gains one, where the mark at it is set.
use Rattle.std.proofs.Common.{◌≡◌, ◌<◌, ◌≤◌, ◌+◌, ◌↔◌, inl, inr, ℕ, zero, suc, List, [], ◌∷◌, ◌++◌, Bool, true, false, get_or, length, length-append, All, Contains, arith, sym, ◌∙◌, ap}
use Rattle.std.proofs.Math.ListN.{get_or-append}
use Rattle.std.proofs.Math.Seq.{get_or-append_seam}
use Rattle.std.proofs.lemmas.Bool.{false≢true, cases_lt}
use Rattle.std.proofs.lemmas.List.{get_or_past}
use Rattle.std.specs.List.Sorted.{IsStrictlyIncreasing}
use Rattle.std.proofs.lemmas.List.Elements.{Contains-append_left, Contains-append_right, Contains-append_cases}

abbrev pub AreMarked : List Bool → List ℕ → ℕ → Type 0
AreMarked marks xs i = (a : ℕ) → Contains xs a ↔ ((a < i) × (get_or marks a false ≡ true))

single : (i a : ℕ) → Contains (i ∷ []) a → i ≡ a
single i a (zero, l, e) = e
single i a (suc k, l, e) = absurd (omega arith)

pub marked_more : (marks : List Bool) (xs : List ℕ) (i : ℕ) → get_or marks i false ≡ true → AreMarked marks xs i
    → AreMarked marks (xs ++ i ∷ []) (i + 1)
marked_more marks xs i t h a = (
  (λ k. elim (Contains-append_cases xs (i ∷ []) a k) [
    | inl u ↦ let v = (h a).0 u in (omega arith, v.1)
    | inr u ↦ let e = single i a u in (omega arith, rw (sym e) t)
  ]),
  (λ u. elim (cases_lt a i) [
    | inl l ↦ Contains-append_left xs (i ∷ []) a ((h a).1 (l, u.1))
    | inr l ↦ let e : i ≡ a = omega arith in Contains-append_right xs (i ∷ []) a (0, omega arith, e)
  ]),
)

pub marked_same : (marks : List Bool) (xs : List ℕ) (i : ℕ) → get_or marks i false ≡ false → AreMarked marks xs i → AreMarked marks xs (i + 1)
marked_same marks xs i t h a = (
  (λ k. let v = (h a).0 k in (omega arith, v.1)),
  (λ u. elim (cases_lt a i) [
    | inl l ↦ (h a).1 (l, u.1)
    | inr l ↦ let e : a ≡ i = omega arith in absurd (false≢true (sym t ∙ (ap (λ n. get_or marks n false) (sym e) ∙ u.1)))
  ]),
)

pub marked_all : (marks : List Bool) (xs : List ℕ) (i : ℕ) → length marks ≤ i → AreMarked marks xs i
    → (a : ℕ) → Contains xs a ↔ get_or marks a false ≡ true
marked_all marks xs i l h a = (
  (λ k. let v = (h a).0 k in v.1),
  (λ u. (h a).1 (below a u, u)),
)
  where
    below : (n : ℕ) → get_or marks n false ≡ true → n < i
    below n u = elim (cases_lt n i) [
      | inl l ↦ l
      | inr g ↦ absurd (false≢true (sym (get_or_past marks n false (omega arith)) ∙ u))
    ]

pub rising_more : (xs : List ℕ) (i : ℕ) → IsStrictlyIncreasing xs → All (λ h. h < i) xs → IsStrictlyIncreasing (xs ++ i ∷ [])
rising_more xs i r b k l =
    let n : length (xs ++ i ∷ []) ≡ length xs + 1 = length-append xs (i ∷ []) in
    elim (cases_lt (k + 1) (length xs)) [
      | inl m ↦ rw (get_or-append xs (i ∷ []) 0 k (omega arith), get_or-append xs (i ∷ []) 0 (k + 1) m) (r k m)
      | inr m ↦
          let e : k + 1 ≡ length xs = omega (arith, n, l) in
          rw (e, get_or-append xs (i ∷ []) 0 k (omega arith), get_or-append_seam xs i [] 0) (b k 0 (omega arith))
    ]

pub below_more : (xs : List ℕ) (i : ℕ) → All (λ h. h < i) xs → All (λ h. h < i + 1) (xs ++ i ∷ [])
below_more xs i b k d l =
    let n : length (xs ++ i ∷ []) ≡ length xs + 1 = length-append xs (i ∷ []) in
    elim (cases_lt k (length xs)) [
      | inl m ↦ let h = b k d m in rw (get_or-append xs (i ∷ []) d k m) (omega arith)
      | inr m ↦
          let e : k ≡ length xs = omega (arith, n, l) in
          rw (e, get_or-append_seam xs i [] d) (omega arith)
    ]

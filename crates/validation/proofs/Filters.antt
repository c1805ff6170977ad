-- A filter of a part of a list is that of the whole, where what was left out does not pass.
use Rattle.std.proofs.Common.{◌≡◌, ℕ, ◌≤◌, zero, suc, Bool, true, false, List, [], ◌∷◌, cond, refl, sym, ◌∙◌, ap, arith, take, drop, length}
use Rattle.std.specs.Prelude.{◌||◌}
use Rattle.std.specs.List.{filter, list_any, AllWithin}
use Rattle.std.specs.List.Sorted.{IsPartitionedBy}

within_rest : {X : Type 0} (P : X → Type 0) (x : X) (xs : List X) (low high : ℕ) → AllWithin P (x ∷ xs) low (suc high) → (j : ℕ)
    → low ≤ suc j → AllWithin P xs j high
within_rest P x xs low high h j l = λ k d m u. h (suc k) d (omega arith) (omega arith)

passed_over : {X : Type 0} (b : Bool) (x : X) (xs : List X) → b ≡ false → cond b (x ∷ xs) xs ≡ xs
passed_over b x xs e = rw e refl

filter_none : {X : Type 0} (test : X → Bool) (xs : List X) → AllWithin (λ y. test y ≡ false) xs 0 (length xs) → filter test xs ≡ []
filter_none test [] h = refl
filter_none test (x ∷ xs) h = passed_over (test x) x (filter test xs) (h 0 x (omega arith) (omega arith))
    ∙ filter_none test xs (within_rest (λ y. test y ≡ false) x xs 0 (length xs) h 0 (omega arith))

pub filter_front : {X : Type 0} (test : X → Bool) (xs : List X) (k : ℕ) → AllWithin (λ y. test y ≡ false) xs k (length xs)
    → filter test (take k xs) ≡ filter test xs
filter_front test xs zero h = sym (filter_none test xs h)
filter_front test [] (suc k) h = refl
filter_front test (x ∷ xs) (suc k) h = ap (λ ys. cond (test x) (x ∷ ys) ys) (filter_front test xs k
    (within_rest (λ y. test y ≡ false) x xs (suc k) (length xs) h k (omega arith)))

pub filter_back : {X : Type 0} (test : X → Bool) (xs : List X) (i : ℕ) → i ≤ length xs → AllWithin (λ y. test y ≡ false) xs 0 i
    → filter test (drop i xs) ≡ filter test xs
filter_back test xs zero l h = refl
filter_back test [] (suc i) l h = refl
filter_back test (x ∷ xs) (suc i) l h = filter_back test xs i (omega arith) (within_rest (λ y. test y ≡ false) x xs 0 i h 0 (omega arith))
    ∙ sym (passed_over (test x) x (filter test xs) (h 0 x (omega arith) (omega arith)))

-- what is partitioned stays so without its front
pub parted_rest : {X : Type 0} (p : X → Bool) (xs : List X) (i : ℕ) → IsPartitionedBy p xs → IsPartitionedBy p (drop i xs)
parted_rest p xs zero h = h
parted_rest p [] (suc i) h = h
parted_rest p (x ∷ xs) (suc i) h = parted_rest p xs i (λ j k d l m t. h (suc j) (suc k) d (omega arith) (omega arith) t)

-- a list has an element that passes exactly where its filter is not empty
some_left : {X : Type 0} → List X → Bool
some_left [] = false
some_left (x ∷ xs) = true

any_left : {X : Type 0} (test : X → Bool) (xs : List X) → list_any test xs ≡ some_left (filter test xs)
unfolding some_left
any_left test [] = refl
any_left {X} test (x ∷ xs) = pick (test x) (any_left test xs)
  where
    pick : (b : Bool) → list_any test xs ≡ some_left (filter test xs) → (b || list_any test xs) ≡ some_left
        (cond b (x ∷ filter test xs) (filter test xs))
    pick true e = refl
    pick false e = e

pub any_filtered : {X : Type 0} (test : X → Bool) (xs ys : List X) → filter test xs ≡ filter test ys → list_any test xs ≡ list_any test ys
any_filtered test xs ys e = any_left test xs ∙ (ap some_left e ∙ sym (any_left test ys))

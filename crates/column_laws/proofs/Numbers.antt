-- Ascending lists of whole numbers.
use Rattle.std.proofs.Common.{◌≡◌, ℤ, ◌<ℤ◌, arith, refl, ◌⊎◌, inl, inr, Bool, true, false, cond, List, [], ◌∷◌}
use Rattle.std.proofs.lemmas.Int.{ints}
use Rattle.std.specs.Int.RustNames.{int_lt}
use Rattle.plane_terms.specs.Lists.{Every}
use Rattle.plane_terms.specs.Columns.{put}
use Rattle.column_laws.specs.Rising.{IsRising}
use Rattle.plane_terms.proofs.ListLemmas.{every_map, IsAmong}

-- the three cases of `put`
put_cases : (P : List ℤ → Type 0) (v x : ℤ) (xs more : List ℤ) → (v <ℤ x → P (v ∷ x ∷ xs)) → (x <ℤ v → P (x ∷ more))
    → (v ≡ x → P (x ∷ xs)) → P (cond (int_lt v x) (v ∷ x ∷ xs) (cond (int_lt x v) (x ∷ more) (x ∷ xs)))
put_cases P v x xs more f g h = by_cases (int_lt v x) (int_lt x v) refl refl
  where
    under : (v x : ℤ) → int_lt v x ≡ true → v <ℤ x
    under v x e = omega (arith, ints)

    same : (v x : ℤ) → int_lt v x ≡ false → int_lt x v ≡ false → v ≡ x
    same v x d e = omega (arith, ints)

    by_cases : (a b : Bool) → int_lt v x ≡ a → int_lt x v ≡ b → P (cond a (v ∷ x ∷ xs) (cond b (x ∷ more) (x ∷ xs)))
    by_cases true b d e = f (under v x d)
    by_cases false true d e = g (under x v e)
    by_cases false false d e = h (same v x d e)

pub every-put : (P : ℤ → Type 0) (v : ℤ) (xs : List ℤ) → P v → Every P xs → Every P (put v xs)
every-put P v [] h k = (h, tt)
every-put P v (x ∷ xs) h k = put_cases (Every P) v x xs (put v xs) (λ e. (h, k)) (λ e. (k.0, every-put P v xs h k.1)) (λ e. k)

pub IsRising-put : (v : ℤ) (xs : List ℤ) → IsRising xs → IsRising (put v xs)
IsRising-put v [] h = (tt, tt)
IsRising-put v (x ∷ xs) h =
    put_cases IsRising v x xs (put v xs)
    (λ e. ((e, every_map (λ y. x <ℤ y) (λ y. v <ℤ y) (λ y k. omega (arith, ints, e, k)) xs h.0), h))
    (λ e. (every-put (λ y. x <ℤ y) v xs e h.0, IsRising-put v xs h.1))
    (λ e. h)

pub among-put : (v : ℤ) (xs : List ℤ) → IsAmong v (put v xs)
among-put v [] = inl refl
among-put v (x ∷ xs) = put_cases (IsAmong v) v x xs (put v xs) (λ e. inl refl) (λ e. inr (among-put v xs)) (λ e. inl e)

pub among-put_other : (u v : ℤ) (xs : List ℤ) → IsAmong u xs → IsAmong u (put v xs)
among-put_other u v [] m = absurd m
among-put_other u v (x ∷ xs) (inl e) = put_cases (IsAmong u) v x xs (put v xs) (λ k. inr (inl e)) (λ k. inl e) (λ k. inl e)
among-put_other u v (x ∷ xs) (inr m) = put_cases (IsAmong u) v x xs (put v xs) (λ k. inr (inr m)) (λ k. inr (among-put_other u v xs m))
    (λ k. inr m)

pub from-put : (u v : ℤ) (xs : List ℤ) → IsAmong u (put v xs) → (u ≡ v) ⊎ IsAmong u xs
from-put u v [] m = m
from-put u v (x ∷ xs) m = put_cases (λ ys. IsAmong u ys → (u ≡ v) ⊎ IsAmong u (x ∷ xs)) v x xs (put v xs) (λ e k. k)
    (λ e. after (from-put u v xs)) (λ e k. inr k) m
  where
    after : (IsAmong u (put v xs) → (u ≡ v) ⊎ IsAmong u xs) → (u ≡ x) ⊎ IsAmong u (put v xs) → (u ≡ v) ⊎ ((u ≡ x) ⊎ IsAmong u xs)
    after f (inl e) = inr (inl e)
    after f (inr k) = elim (f k) [ inl e ↦ inl e | inr l ↦ inr (inr l) ]

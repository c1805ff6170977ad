-- What the cells of a list leave of one cell, carved one after another.
use Rattle.std.proofs.Common.{◌≡◌, ◌≤◌, ◌<◌, ◌+◌, ℕ, List, [], ◌∷◌, length, nat_eq, arith, inl, inr, refl, subst}
use Rattle.std.specs.Prelude.{slice_get, Some, not}
use Rattle.std.specs.Bool.{OnTrue, OnFalse}
use Rattle.std.proofs.lemmas.Bool.{cases_lt}
use Rattle.std.proofs.lemmas.List.{nil_from_length}
use Rattle.std.proofs.lemmas.Option.{slice_get_within}
use Rattle.plane_terms.specs.Cell.{Cell, InCell, InCells}
use Rattle.sound_check.specs.Off.{OffBetween, HasOff, HasNoneOff}
use Rattle.sound_check.specs.Rest.{IsRest}
use Rattle.sound_check.proofs.Offs.{one_cell}
use Rattle.sound_check.proofs.Rests.{not_zero}

pub carved_first : (ds : List Cell) (j : ℕ) (c : Cell) (rest : List Cell) → IsRest (InCells ([] ∷ [])) (c ∷ []) rest
    → IsRest (OffBetween ds j j) (c ∷ []) rest
carved_first ds j c rest r = record {
  some = r.some;
  points = λ p. (
    λ m. (((r.points p).0 m).0, λ i d s l b. absurd (never j i l b)),
    λ m. (r.points p).1 (m.0, inl tt),
  );
}
  where
    never : (a b : ℕ) → a ≤ b → b < a → ⊥
    never a b l m = omega arith

pub carved_next : (ds : List Cell) (j i : ℕ) (d : Cell) (cs old new : List Cell) → slice_get ds i ≡ Some d → j ≤ i
    → IsRest (OffBetween ds j i) cs old → IsRest (λ p. ¬ (InCell d p)) old new → IsRest (OffBetween ds j (i + 1)) cs new
carved_next ds j i d cs old new e from a b = record {
  some = b.some;
  points = λ p. (
    λ m.
        let k = (b.points p).0 m in
        let l = (a.points p).0 k.0 in (
          l.0,
          λ n x s f t. elim (cases_lt n i) [
            | inl u ↦ l.1 n x s f u
            | inr u ↦ subst (λ (y : Cell). ¬ (InCell y p)) (one_cell ds i d x e (subst (λ y. slice_get ds y ≡ Some x) (same n i u t) s)) k.1
          ],
        ),
    λ m. (b.points p).1 ((a.points p).1 (m.0, λ n x s f t. m.1 n x s f (less n i t)), m.1 i d e from (omega arith)),
  );
}
  where
    same : (a b : ℕ) → b ≤ a → a < b + 1 → a ≡ b
    same a b l m = omega arith

    less : (a b : ℕ) → a < b → a < b + 1
    less a b l = omega arith

-- nothing is left
pub carved_none : (ds : List Cell) (j i : ℕ) (c : Cell) (rest : List Cell) → IsRest (OffBetween ds j i) (c ∷ []) rest → length rest ≡ 0 → HasNoneOff ds j c
carved_none ds j i c rest r e p m o =
    subst (λ xs. InCells xs p) (nil_from_length rest e) ((r.points p).1 (inl m, λ n x s f t. o n x s f))

-- after all of them, where n cells are left
pub carved_found : (ds : List Cell) (j i : ℕ) (c : Cell) (rest : List Cell) (n : ℕ) → length ds ≤ i → IsRest (OffBetween ds j i) (c ∷ []) rest → n ≡ length rest
    → OnTrue (not (nat_eq n 0)) (HasOff ds j c)
carved_found ds j i c [] n l r e = rw e tt
carved_found ds j i c (x ∷ xs) n l r e =
    let at = r.some.0.0 in
    let k = (r.points at).0 (inl r.some.0.1) in
    rw (not_zero x xs n e) (at, elim k.0 [ inl m ↦ m | inr m ↦ absurd m ], λ a y s from. k.1 a y s from (within a y s))
  where
    within : (a : ℕ) (y : Cell) → slice_get ds a ≡ Some y → a < i
    within a y s = omega (arith, l, slice_get_within ds a y s)

pub carved_nothing : (ds : List Cell) (j i : ℕ) (c : Cell) (rest : List Cell) (n : ℕ) → IsRest (OffBetween ds j i) (c ∷ []) rest → n ≡ length rest
    → OnFalse (not (nat_eq n 0)) (HasNoneOff ds j c)
carved_nothing ds j i c [] n r e = rw e (carved_none ds j i c [] r refl)
carved_nothing ds j i c (x ∷ xs) n r e = rw (not_zero x xs n e) tt

-- What covers a stretch of a wall stands on it, so the upright segments alone say which stretches are covered.
use Rattle.std.proofs.Common.{◌≡◌, ◌≤◌, length, arith, ℤ, ap, refl, sym, Bool, true, false, cond, ◌&&◌, ◌||◌, List, [], ◌∷◌, Option, Some, None, int_le}
use Rattle.std.specs.List.{filter}
use Rattle.std.proofs.lemmas.Bool.{false≢true}
use Rattle.plane_terms.specs.Segment.{Segment}
use Rattle.plane_terms.specs.Columns.{is_covered}
use Rattle.column_cut.specs.Covering.{covers, is_upright}
use Rattle.column_cut.specs.Stretches.{stretches_of}

covers_none : (a b c d e : Bool) → a && b && (c && d) ≡ false → a && b && (c && d) && e ≡ false
covers_none false b c d e h = refl
covers_none true false c d e h = refl
covers_none true true false d e h = refl
covers_none true true true false e h = refl
covers_none true true true true e h = absurd (false≢true (sym h))

by_test : (x : ℤ) (s : Segment) (ss : List Segment) (low high : ℤ) (u : Bool) → is_upright x s ≡ u
    → is_covered x ss low high ≡ is_covered x (filter (is_upright x) ss) low high
    → is_covered x (s ∷ ss) low high ≡ is_covered x (cond u (s ∷ filter (is_upright x) ss) (filter (is_upright x) ss)) low high
by_test x s ss low high true e h = ap (λ b. covers x s low high || b) h
by_test x s ss low high false e h =
    let none : covers x s low high ≡ false = covers_none (int_le s.lo.x x) (int_le x s.lo.x) (int_le s.hi.x x) (int_le x s.hi.x)
    (int_le s.lo.y low && int_le high s.hi.y) e in
    rw none h

pub covered_by_upright : (x : ℤ) (ss : List Segment) (low high : ℤ)
    → is_covered x ss low high ≡ is_covered x (filter (is_upright x) ss) low high
covered_by_upright x [] low high = refl
covered_by_upright x (s ∷ ss) low high = by_test x s ss low high (is_upright x s) refl (covered_by_upright x ss low high)

-- the same stretches are covered, so the same are left
pub stretches_same : (f g : ℤ → ℤ → Bool) → ((a b : ℤ) → f a b ≡ g a b) → (from : Option ℤ) (vs : List ℤ)
    → stretches_of f from vs ≡ stretches_of g from vs
stretches_same f g e None [] = refl
stretches_same f g e (Some a) [] = refl
stretches_same f g e None (b ∷ bs) = ap (λ ss. record { low = None; high = Some b } ∷ ss) (stretches_same f g e (Some b) bs)
stretches_same f g e (Some a) (b ∷ bs) = rw (e a b, stretches_same f g e (Some b) bs) refl

-- with one vertex at most no stretch lies between two, so none is covered
pub stretches_few : (f g : ℤ → ℤ → Bool) (vs : List ℤ) → length vs ≤ 1 → stretches_of f None vs ≡ stretches_of g None vs
stretches_few f g [] h = refl
stretches_few f g (v ∷ []) h = refl
stretches_few f g (v ∷ w ∷ vs) h = absurd (omega arith)

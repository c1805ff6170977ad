-- A point of half units, tried on half-planes.
use Rattle.std.proofs.Common.{◌≡◌, ◌≤◌, ◌^◌, ℤ, pos, ◌+ℤ◌, ◌*ℤ◌, arith, lit<, ◌++◌, unsigned_abs, to_z, of_z, w64}
use Rattle.std.specs.Prelude.{FitsSigned}
use Rattle.std.proofs.lemmas.Int.{ints}
use Rattle.std.specs.List.{All}
use Rattle.std.proofs.lemmas.List.Elements.{All-append, recursion_from_All}
use Rattle.plane_terms.specs.Point.{Point}
use Rattle.plane_terms.specs.HalfPlane.{HalfPlane, Holds}
use Rattle.plane_terms.specs.Cell.{Cell, HasPoint}
use Rattle.number_laws.proofs.Ring.{num, ◌⊕◌, ◌⊗◌, same_by}
use Rattle.convex_cell.specs.declared.middle.Middle.{Middle}
use Rattle.convex_cell.specs.Middle.{HoldsAt}

pub twice : (a x b y c : ℤ) → (a *ℤ x +ℤ c) +ℤ (b *ℤ y +ℤ c) ≡ a *ℤ x +ℤ b *ℤ y +ℤ c *ℤ pos 2
twice a x b y c = same_by ((num a ⊗ num x ⊕ num c) ⊕ (num b ⊗ num y ⊕ num c)) (num a ⊗ num x ⊕ num b ⊗ num y ⊕ num c ⊗ num (pos 2))
    (omega arith)

pub point_at : (m : Middle) (a b : Cell) → All (HoldsAt m) a → All (HoldsAt m) b → HasPoint (a ++ b)
point_at m a b f g =
    let q : Point = record { x = m.x; y = m.y; w = 2; positive = lit< tt } in
    let P : HalfPlane → Type 0 = λ h. Holds h q in
    (q, recursion_from_All P (a ++ b) (All-append P a b f g))

-- ---- what the code's numbers are
pub sum_is : (r a a1 x c c1 : ℤ) → unsigned_abs a ≤ 2 ^ 23 → unsigned_abs x ≤ 2 ^ 23 → unsigned_abs c ≤ 2 ^ 46 → a1 ≡ a → c1 ≡ c
    → r ≡ to_z w64 (of_z w64 a1) *ℤ to_z w64 (of_z w64 x) +ℤ to_z w64 (of_z w64 c1) → r ≡ a *ℤ x +ℤ c
sum_is r a a1 x c c1 h g k e f q =
    let i : to_z w64 (of_z w64 a1) ≡ a = omega (arith, ints) in
    let j : to_z w64 (of_z w64 x) ≡ x = omega (arith, ints) in
    let l : to_z w64 (of_z w64 c1) ≡ c = omega (arith, ints) in
    rw (i, j, l) at q

pub sum_back : (p q : ℤ) → unsigned_abs p ≤ 2 ^ 47 → unsigned_abs q ≤ 2 ^ 47
    → to_z w64 (of_z w64 (to_z w64 (of_z w64 p) +ℤ to_z w64 (of_z w64 q))) ≡ p +ℤ q
sum_back p q h k = omega (arith, ints)

pub sum_fits_i64 : (p q : ℤ) → unsigned_abs p ≤ 2 ^ 47 → unsigned_abs q ≤ 2 ^ 47
    → FitsSigned w64 (to_z w64 (of_z w64 p) +ℤ to_z w64 (of_z w64 q))
sum_fits_i64 p q h k = omega (arith, ints)

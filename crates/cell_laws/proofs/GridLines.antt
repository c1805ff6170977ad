-- What the half-planes at a coordinate hold.
use Rattle.std.proofs.Common.{◌≡◌, ◌↔◌, ℤ, pos, negsuc, ◌-ℤ◌, ◌*ℤ◌, ◌≤ℤ◌, ◌<ℤ◌, arith, subst, sym}
use Rattle.std.proofs.lemmas.Int.{ints}
use Rattle.plane_terms.specs.Point.{Point}
use Rattle.plane_terms.specs.HalfPlane.{Holds, value_at, weak, x_over, x_under, y_over, y_under, x_is, y_is}
use Rattle.number_laws.proofs.Ring.{num, neg, ◌⊕◌, ◌⊖◌, ◌⊗◌, same_by}

over_gap : (u v : ℤ) → (pos 0 <ℤ (u -ℤ v)) ↔ (v <ℤ u)
over_gap u v = (λ h. omega (arith, ints), λ h. omega (arith, ints))

least_gap : (u v : ℤ) → (pos 0 ≤ℤ (u -ℤ v)) ↔ (v ≤ℤ u)
least_gap u v = (λ h. omega (arith, ints), λ h. omega (arith, ints))

zero_gap : (u v : ℤ) → (u -ℤ v ≡ pos 0) ↔ (u ≡ v)
zero_gap u v = (λ h. omega (arith, ints), λ h. omega (arith, ints))

by_value : (S : ℤ → Type 0) (P : Type 0) (u v : ℤ) → u ≡ v → S v ↔ P → S u ↔ P
by_value S P u v e k = (λ h. k.0 (subst S e h), λ h. subst S (sym e) (k.1 h))

x_value : (v : ℤ) (p : Point) → value_at (x_over v) p ≡ p.x -ℤ v *ℤ pos p.w
x_value v p = same_by (num (pos 1) ⊗ num p.x ⊕ num (pos 0) ⊗ num p.y ⊕ neg (num v) ⊗ num (pos p.w)) (num p.x ⊖ num v ⊗ num (pos p.w))
    (omega arith)

x_value_back : (v : ℤ) (p : Point) → value_at (x_under v) p ≡ v *ℤ pos p.w -ℤ p.x
x_value_back v p = same_by (num (negsuc 0) ⊗ num p.x ⊕ num (pos 0) ⊗ num p.y ⊕ num v ⊗ num (pos p.w)) (num v ⊗ num (pos p.w) ⊖ num p.x)
    (omega arith)

y_value : (v : ℤ) (p : Point) → value_at (y_over v) p ≡ p.y -ℤ v *ℤ pos p.w
y_value v p = same_by (num (pos 0) ⊗ num p.x ⊕ num (pos 1) ⊗ num p.y ⊕ neg (num v) ⊗ num (pos p.w)) (num p.y ⊖ num v ⊗ num (pos p.w))
    (omega arith)

y_value_back : (v : ℤ) (p : Point) → value_at (y_under v) p ≡ v *ℤ pos p.w -ℤ p.y
y_value_back v p = same_by (num (pos 0) ⊗ num p.x ⊕ num (negsuc 0) ⊗ num p.y ⊕ num v ⊗ num (pos p.w)) (num v ⊗ num (pos p.w) ⊖ num p.y)
    (omega arith)

pub x_over_holds : (v : ℤ) (p : Point) → Holds (x_over v) p ↔ ((v *ℤ pos p.w) <ℤ p.x)
x_over_holds v p = by_value (λ z. pos 0 <ℤ z) _ _ _ (x_value v p) (over_gap p.x (v *ℤ pos p.w))

pub x_under_holds : (v : ℤ) (p : Point) → Holds (x_under v) p ↔ (p.x <ℤ (v *ℤ pos p.w))
x_under_holds v p = by_value (λ z. pos 0 <ℤ z) _ _ _ (x_value_back v p) (over_gap (v *ℤ pos p.w) p.x)

pub y_over_holds : (v : ℤ) (p : Point) → Holds (y_over v) p ↔ ((v *ℤ pos p.w) <ℤ p.y)
y_over_holds v p = by_value (λ z. pos 0 <ℤ z) _ _ _ (y_value v p) (over_gap p.y (v *ℤ pos p.w))

pub y_under_holds : (v : ℤ) (p : Point) → Holds (y_under v) p ↔ (p.y <ℤ (v *ℤ pos p.w))
y_under_holds v p = by_value (λ z. pos 0 <ℤ z) _ _ _ (y_value_back v p) (over_gap (v *ℤ pos p.w) p.y)

pub weak_x_over_holds : (v : ℤ) (p : Point) → Holds (weak (x_over v)) p ↔ ((v *ℤ pos p.w) ≤ℤ p.x)
weak_x_over_holds v p = by_value (λ z. pos 0 ≤ℤ z) _ _ _ (x_value v p) (least_gap p.x (v *ℤ pos p.w))

pub weak_x_under_holds : (v : ℤ) (p : Point) → Holds (weak (x_under v)) p ↔ (p.x ≤ℤ (v *ℤ pos p.w))
weak_x_under_holds v p = by_value (λ z. pos 0 ≤ℤ z) _ _ _ (x_value_back v p) (least_gap (v *ℤ pos p.w) p.x)

pub weak_y_over_holds : (v : ℤ) (p : Point) → Holds (weak (y_over v)) p ↔ ((v *ℤ pos p.w) ≤ℤ p.y)
weak_y_over_holds v p = by_value (λ z. pos 0 ≤ℤ z) _ _ _ (y_value v p) (least_gap p.y (v *ℤ pos p.w))

pub weak_y_under_holds : (v : ℤ) (p : Point) → Holds (weak (y_under v)) p ↔ (p.y ≤ℤ (v *ℤ pos p.w))
weak_y_under_holds v p = by_value (λ z. pos 0 ≤ℤ z) _ _ _ (y_value_back v p) (least_gap (v *ℤ pos p.w) p.y)

pub x_is_holds : (v : ℤ) (p : Point) → Holds (x_is v) p ↔ (p.x ≡ v *ℤ pos p.w)
x_is_holds v p = by_value (λ z. z ≡ pos 0) _ _ _ (x_value v p) (zero_gap p.x (v *ℤ pos p.w))

pub y_is_holds : (v : ℤ) (p : Point) → Holds (y_is v) p ↔ (p.y ≡ v *ℤ pos p.w)
y_is_holds v p = by_value (λ z. z ≡ pos 0) _ _ _ (y_value v p) (zero_gap p.y (v *ℤ pos p.w))

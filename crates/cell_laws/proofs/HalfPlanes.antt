-- What the half-planes beside a segment hold.
use Rattle.std.proofs.Common.{◌≡◌, ℤ, pos, ◌+ℤ◌, ◌-ℤ◌, ◌*ℤ◌, ◌<ℤ◌, neg_ℤ, ◌↔◌, arith, subst, sym}
use Rattle.std.proofs.lemmas.Int.{ints}
use Rattle.plane_terms.specs.Point.{Point}
use Rattle.plane_terms.specs.HalfPlane.{Holds, value_at}
use Rattle.plane_terms.specs.Segment.{Segment, cross, left_of, right_of, on_line}
use Rattle.number_laws.proofs.Ring.{num, neg, ◌⊕◌, ◌⊖◌, ◌⊗◌, same_by}
use Rattle.number_laws.proofs.Order.{turned_over}
use Rattle.cell_laws.proofs.Meeting.{form_xy}

pub left_value : (s : Segment) (p : Point) → value_at (left_of s) p ≡ cross s p
left_value s p = form_xy s.lo.x s.lo.y s.hi.x s.hi.y p.x p.y (pos p.w)

right_form : (lx ly hx hy x y w : ℤ) → (hy -ℤ ly) *ℤ x +ℤ neg_ℤ (hx -ℤ lx) *ℤ y +ℤ ((hx -ℤ lx) *ℤ ly -ℤ (hy -ℤ ly) *ℤ lx) *ℤ w
    ≡ neg_ℤ ((hx -ℤ lx) *ℤ (y -ℤ ly *ℤ w) -ℤ (hy -ℤ ly) *ℤ (x -ℤ lx *ℤ w))
right_form lx ly hx hy x y w =
    let dx = num hx ⊖ num lx in
    let dy = num hy ⊖ num ly in
    same_by (dy ⊗ num x ⊕ neg dx ⊗ num y ⊕ (dx ⊗ num ly ⊖ dy ⊗ num lx) ⊗ num w)
    (neg (dx ⊗ (num y ⊖ num ly ⊗ num w) ⊖ dy ⊗ (num x ⊖ num lx ⊗ num w))) (omega arith)

pub right_value : (s : Segment) (p : Point) → value_at (right_of s) p ≡ neg_ℤ (cross s p)
right_value s p = right_form s.lo.x s.lo.y s.hi.x s.hi.y p.x p.y (pos p.w)

pub left_holds : (s : Segment) (p : Point) → Holds (left_of s) p ↔ (pos 0 <ℤ cross s p)
left_holds s p = (subst (λ v. pos 0 <ℤ v) (left_value s p), subst (λ v. pos 0 <ℤ v) (sym (left_value s p)))

pub right_holds : (s : Segment) (p : Point) → Holds (right_of s) p ↔ (cross s p <ℤ pos 0)
right_holds s p = (
  λ h. turned (cross s p) (subst (λ v. pos 0 <ℤ v) (right_value s p) h),
  λ h. subst (λ v. pos 0 <ℤ v)
      (sym (right_value s p)) (turned_over (cross s p) h),
)
  where
    turned : (v : ℤ) → pos 0 <ℤ neg_ℤ v → v <ℤ pos 0
    turned v h = omega (arith, ints)

pub line_holds : (s : Segment) (p : Point) → Holds (on_line s) p ↔ (cross s p ≡ pos 0)
line_holds s p = (subst (λ v. v ≡ pos 0) (left_value s p), subst (λ v. v ≡ pos 0) (sym (left_value s p)))

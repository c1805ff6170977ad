-- A line and a half-plane: how their values differ, and the point of the line at an abscissa.
use Rattle.std.proofs.Common.{◌≡◌, ℕ, ◌*◌, ◌<◌, ℤ, pos, ◌+ℤ◌, ◌*ℤ◌, neg_ℤ, arith}
use Rattle.std.proofs.Math.Nat.{mul-pos}
use Rattle.plane_terms.specs.Point.{Point}
use Rattle.plane_terms.specs.HalfPlane.{HalfPlane, value_at}
use Rattle.plane_terms.specs.Columns.{gap_at}
use Rattle.number_laws.proofs.Ring.{num, neg, ◌⊕◌, ◌⊖◌, ◌⊗◌, same_by}

pub gap_is : (l m : HalfPlane) (p : Point) → m.b *ℤ value_at l p ≡ l.b *ℤ value_at m p +ℤ gap_at l m p.x (pos p.w)
gap_is l m p =
    same_by (num m.b ⊗ (num l.a ⊗ num p.x ⊕ num l.b ⊗ num p.y ⊕ num l.c ⊗ num (pos p.w)))
    (num l.b ⊗ (num m.a ⊗ num p.x ⊕ num m.b ⊗ num p.y ⊕ num m.c ⊗ num (pos p.w)) ⊕ ((num l.a ⊗ num m.b ⊖ num m.a ⊗ num l.b) ⊗ num p.x ⊕
    (num l.c ⊗ num m.b ⊖ num m.c ⊗ num l.b) ⊗ num (pos p.w)))
    (omega arith)

-- the point of a line at the abscissa x / w
unfoldable pub point_on : HalfPlane → ℤ → (w b : ℕ) → 0 < w → 0 < b → Point
point_on l x w b p q = record { x = x *ℤ pos b; y = neg_ℤ (l.a *ℤ x +ℤ l.c *ℤ pos w); w = w * b; positive = mul-pos p q }

on_it : (a c x : ℤ) (b w : ℕ) → a *ℤ (x *ℤ pos b) +ℤ pos b *ℤ neg_ℤ (a *ℤ x +ℤ c *ℤ pos w) +ℤ c *ℤ pos (w * b) ≡ pos 0
on_it a c x b w =
    same_by (num a ⊗ (num x ⊗ num (pos b)) ⊕ num (pos b) ⊗ neg (num a ⊗ num x ⊕ num c ⊗ num (pos w)) ⊕ num c ⊗ num (pos (w * b)))
    (num (pos 0)) (omega arith)

pub point_on-is : (l : HalfPlane) (x : ℤ) (w b : ℕ) (p : 0 < w) (q : 0 < b) → l.b ≡ pos b → value_at l (point_on l x w b p q) ≡ pos 0
unfolding point_on
point_on-is l x w b p q e = rw e (on_it l.a l.c x b w)

pub scaled_gap : (g h x : ℤ) (w b : ℕ) → g *ℤ (x *ℤ pos b) +ℤ h *ℤ pos (w * b) ≡ pos b *ℤ (g *ℤ x +ℤ h *ℤ pos w)
scaled_gap g h x w b = same_by (num g ⊗ (num x ⊗ num (pos b)) ⊕ num h ⊗ num (pos (w * b)))
    (num (pos b) ⊗ (num g ⊗ num x ⊕ num h ⊗ num (pos w))) (omega arith)

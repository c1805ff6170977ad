-- Which segments count at a place of the grid, and so at each point that is at it.
use Rattle.std.specs.Int.{int_signum}
use Rattle.std.specs.Prelude.{int_lt, int_le, ◌&&◌}
use Rattle.std.proofs.Common.{◌≡◌, inl, inr, ℕ, zero, suc, ◌<◌, ℤ, pos, negsuc, ◌*ℤ◌, ◌≤ℤ◌, ◌<ℤ◌, false, arith, refl, sym, ap, ◌∙◌}
use Rattle.std.proofs.lemmas.Int.{ints}
use Rattle.std.proofs.lemmas.Bool.Decides.{same_from_decides, Decides-like}
use Rattle.plane_terms.specs.Point.{Place, Point, IsAt}
use Rattle.plane_terms.specs.Segment.{Segment, cross}
use Rattle.plane_terms.specs.Polygon.{counts}
use Rattle.plane_terms.specs.Share.{turn}
use Rattle.number_laws.proofs.Order.{le_from_scaled, scaled_le, product_over, over_unscaled, cases_order_ℤ}
use Rattle.number_laws.proofs.Ring.{int_tests}
use Rattle.number_laws.proofs.Tests.{Decides-int_le, Decides-int_lt}
use Rattle.cell_laws.proofs.Meeting.{at_turn}

-- ---- the tests of the definition, by the place's own coordinates
from_left : (a x v : ℤ) (w : ℕ) → 0 < w → v ≡ x *ℤ pos w → int_le (a *ℤ pos w) v ≡ int_le a x
from_left a x v w o e =
    same_from_decides _ _
    (Decides-like _ (λ h. le_from_scaled a x w o (omega (arith, ints))) (λ h. omega (arith, ints, scaled_le a x w h))
    (Decides-int_le (a *ℤ pos w) v))
    (Decides-int_le a x)

to_right : (x b v : ℤ) (w : ℕ) → 0 < w → v ≡ x *ℤ pos w → int_lt v (b *ℤ pos w) ≡ int_lt x b
to_right x b v w o e =
    same_from_decides _ _ (Decides-like _ less more (Decides-int_lt v (b *ℤ pos w))) (Decides-int_lt x b)
  where
    less : v <ℤ (b *ℤ pos w) → x <ℤ b
    less h = elim (cases_order_ℤ x b) [ inl k ↦ k | inr k ↦ absurd (omega (arith, ints, scaled_le b x w k)) ]

    more : x <ℤ b → v <ℤ (b *ℤ pos w)
    more h = elim (cases_order_ℤ v (b *ℤ pos w)) [
      | inl k ↦ k
      | inr k ↦ absurd (omega
          (arith, ints, le_from_scaled b x w o (omega (arith, ints))))
    ]

above : (s : Segment) (q : Place) (p : Point) → IsAt q p → int_lt (pos 0) (cross s p) ≡ int_lt (pos 0) (turn s q)
above s q p i =
    let e : cross s p ≡ pos p.w *ℤ turn s q = rw (i.x, i.y) (at_turn s.lo.x s.lo.y s.hi.x s.hi.y q.x q.y (pos p.w)) in
    let w : pos 0 <ℤ pos p.w = omega (arith, ints, p.positive) in
    ap (int_lt (pos 0)) e ∙ same_from_decides _ _
    (Decides-like _ (over_unscaled (pos p.w) (turn s q) w) (product_over (pos p.w) (turn s q) w)
    (Decides-int_lt (pos 0) (pos p.w *ℤ turn s q)))
    (Decides-int_lt (pos 0) (turn s q))

signed : (z : ℤ) → int_lt (pos 0) (int_signum z) ≡ int_lt (pos 0) z
signed (pos zero) = refl
signed (pos (suc n)) = same_from_decides _ _ (Decides-like _ (λ h. omega (arith, ints)) (λ h. omega (arith, ints))
    (Decides-int_lt (pos 0) (int_signum (pos (suc n))))) (Decides-int_lt (pos 0) (pos (suc n)))
signed (negsuc n) = refl

counts-at : (s : Segment) (q : Place) (p : Point) → IsAt q p
    → counts s p ≡ (int_le s.lo.x q.x && (int_lt q.x s.hi.x && int_lt (pos 0) (turn s q)))
counts-at s q p i =
    let a = from_left s.lo.x q.x p.x p.w p.positive i.x in
    let b = to_right q.x s.hi.x p.x p.w p.positive i.x in
    let c = above s q p i in
    cc

-- of a segment that runs below or above the place, the side tells
pub counted : (s : Segment) (q : Place) (p : Point) → IsAt q p → (s.lo.x ≤ℤ q.x) × (q.x <ℤ s.hi.x)
    → int_lt (pos 0) (int_signum (turn s q)) ≡ counts s p
counted s q p i h =
    let a = (Decides-int_le s.lo.x q.x).1 h.0 in
    let b = (Decides-int_lt q.x s.hi.x).1 h.1 in
    sym (counts-at s q p i ∙ rw (a, b) (sym (signed (turn s q))))

pub not_counted : (s : Segment) (q : Place) (p : Point) → IsAt q p → ¬ ((s.lo.x ≤ℤ q.x) × (q.x <ℤ s.hi.x)) → counts s p ≡ false
not_counted s q p i n = counts-at s q p i ∙ elim (cases_order_ℤ q.x s.lo.x) [
  | inl h ↦ let a : int_le s.lo.x q.x ≡ false = omega (arith, ints, int_tests) in rw a refl
  | inr h ↦ elim (cases_order_ℤ q.x s.hi.x) [
    | inl k ↦ absurd (n (h, k))
    | inr k ↦
        let a = (Decides-int_le s.lo.x q.x).1 h in
        let b : int_lt q.x s.hi.x ≡ false = omega (arith, ints, int_tests) in
        rw (a, b) refl
  ]
]

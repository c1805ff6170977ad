-- How many is odd, and what is on a segment, at a place of the grid and at each point that is at it.
use Rattle.std.proofs.Common.{◌≡◌, ◌↔◌, ◌⊎◌, inl, inr, ℕ, zero, suc, ◌<◌, ◌%◌, ℤ, pos, ◌*ℤ◌, true, false, nat_eq, arith, refl, sym, ap, ◌∙◌}
use Rattle.std.specs.Prelude.{not}
use Rattle.std.proofs.lemmas.Int.{ints}
use Rattle.plane_terms.specs.Lists.{is_odd}
use Rattle.plane_terms.specs.Point.{Place, Point, IsAt}
use Rattle.plane_terms.specs.Segment.{Segment, IsBetween, OnSegment}
use Rattle.number_laws.proofs.Order.{le_from_scaled, scaled_le}
use Rattle.grid_plane.specs.Rectangles.{HoldsAt}
use Rattle.plane_terms.specs.Share.{turn}
use Rattle.cell_laws.proofs.Meeting.{at_turn, times_zero, turn_zero}

-- ---- how many
odd_or_even : (n : ℕ) → ((is_odd n ≡ true) × (n % 2 ≡ 1)) ⊎ ((is_odd n ≡ false) × (n % 2 ≡ 0))
odd_or_even zero = inr (refl, refl)
odd_or_even (suc n) = elim (odd_or_even n) [
  | inl h ↦ inr (ap not h.0, omega (arith, h.1))
  | inr h ↦ inl (ap not h.0, omega (arith, h.1))
]

pub odd_is : (n : ℕ) → nat_eq (n % 2) 1 ≡ is_odd n
odd_is n = elim (odd_or_even n) [
  | inl h ↦ ap (λ m. nat_eq m 1) h.1 ∙ sym h.0
  | inr h ↦ ap (λ m. nat_eq m 1) h.1 ∙ sym h.0
]

-- ---- on a segment, all points at a place are alike
between_moved : (a b v x y : ℤ) (w u : ℕ) → 0 < w → x ≡ v *ℤ pos w → y ≡ v *ℤ pos u → IsBetween (a *ℤ pos w) (b *ℤ pos w) x
    → IsBetween (a *ℤ pos u) (b *ℤ pos u) y
between_moved a b v x y w u o e f (inl h) = inl (
  omega (arith, ints, scaled_le a v u (le_from_scaled a v w o (omega (arith, ints, h.0)))),
  omega (arith, ints, scaled_le v b u (le_from_scaled v b w o (omega (arith, ints, h.1)))),
)
between_moved a b v x y w u o e f (inr h) = inr (
  omega (arith, ints, scaled_le b v u (le_from_scaled b v w o (omega (arith, ints, h.0)))),
  omega (arith, ints, scaled_le v a u (le_from_scaled v a w o (omega (arith, ints, h.1)))),
)

pub on_place : (q : Place) (p : Point) → IsAt q p → (s : Segment) → HoldsAt q (OnSegment s) ↔ OnSegment s p
on_place q p i s = (
  λ h. h p i,
  λ o r j. record {
    straight = rw (j.x, j.y) (at_turn s.lo.x s.lo.y s.hi.x s.hi.y q.x q.y (pos r.w)
        ∙ times_zero (pos r.w) (turn s q) (turn_zero s q p i o));
    across = between_moved s.lo.x s.hi.x q.x p.x r.x p.w r.w p.positive i.x j.x o.across;
    along = between_moved s.lo.y s.hi.y q.y p.y r.y p.w r.w p.positive i.y j.y o.along;
  },
)

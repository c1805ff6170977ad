-- All points at a place of the grid are on a segment where one is.
use Rattle.std.proofs.Common.{◌≡◌, ℕ, ℤ, pos, ◌*ℤ◌, true, arith, inl, inr, refl, ◌∙◌}
use Rattle.std.proofs.lemmas.Bool.Decides.{Decides-and, Decides-int_eq}
use Rattle.std.proofs.lemmas.Int.{ints}
use Rattle.plane_terms.specs.Point.{Place, Point, IsAt, same_place, point_at}
use Rattle.plane_terms.specs.Segment.{Segment, OnSegment, IsBetween}
use Rattle.plane_terms.specs.Share.{turn}
use Rattle.number_laws.proofs.Order.{scaled_le}
use Rattle.cell_laws.proofs.Meeting.{turn_zero, at_turn, times_zero}
use Rattle.cell_laws.proofs.OnLine.{at_itself}

pub turn_on : (s : Segment) (q : Place) → OnSegment s (point_at q) → turn s q ≡ pos 0
turn_on s q o = turn_zero s q (point_at q) (at_itself q) o

between_scaled : (a b v x : ℤ) (w : ℕ) → x ≡ v *ℤ pos w → IsBetween (a *ℤ pos 1) (b *ℤ pos 1) v → IsBetween (a *ℤ pos w) (b *ℤ pos w) x
between_scaled a b v x w e (inl h) =
    inl (
      omega (arith, ints, e, scaled_le a v w (omega (arith, ints, h.0))),
      omega (arith, ints, e, scaled_le v b w (omega (arith, ints, h.1))),
    )
between_scaled a b v x w e (inr h) =
    inr (
      omega (arith, ints, e, scaled_le b v w (omega (arith, ints, h.0))),
      omega (arith, ints, e, scaled_le v a w (omega (arith, ints, h.1))),
    )

pub on_all_at : (s : Segment) (q : Place) → OnSegment s (point_at q) → (p : Point) → IsAt q p → OnSegment s p
on_all_at s q o p a = record {
  straight = rw (a.x, a.y) (at_turn s.lo.x s.lo.y s.hi.x s.hi.y q.x q.y (pos p.w) ∙ times_zero (pos p.w) (turn s q) (turn_on s q o));
  across = between_scaled s.lo.x s.hi.x q.x p.x p.w a.x o.across;
  along = between_scaled s.lo.y s.hi.y q.y p.y p.w a.y o.along;
}

-- ---- two places by a test
pub same_is : (q r : Place) → same_place q r ≡ true → q ≡ r
same_is q r t =
    let k = (Decides-and _ _ (Decides-int_eq q.x r.x) (Decides-int_eq q.y r.y)).0 t in
    λ i. record { x = k.0 i; y = k.1 i }

pub is_same : (q r : Place) → q ≡ r → same_place q r ≡ true
is_same q r e = rw e ((Decides-and _ _ (Decides-int_eq r.x r.x) (Decides-int_eq r.y r.y)).1 (refl, refl))

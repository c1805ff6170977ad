-- The envelope of a segment holds its points.
use Rattle.std.proofs.Common.{◌≡◌, ℕ, ℤ, pos, ◌*ℤ◌, ◌≤ℤ◌, arith, inl, inr, refl}
use Rattle.std.proofs.lemmas.Int.{ints, clamps}
use Rattle.std.specs.Int.{int_min, int_max}
use Rattle.plane_terms.specs.Point.{Point}
use Rattle.plane_terms.specs.Rectangle.{RectHolds, RectsMeet, rect_of}
use Rattle.plane_terms.specs.Segment.{Segment, IsSegment, IsBetween, OnSegment, box_of}
use Rattle.cell_laws.proofs.Meeting.{NoneShared}
use Rattle.number_laws.proofs.Order.{scaled_le}

pub ends_rise : (s : Segment) → IsSegment s → s.lo.x ≤ℤ s.hi.x
ends_rise s g = elim g.ordered [ inl h ↦ omega (arith, ints) | inr h ↦ omega (arith, ints, h.0) ]

between_low : (a b v : ℤ) (w : ℕ) → IsBetween (a *ℤ pos w) (b *ℤ pos w) v → (int_min a b *ℤ pos w) ≤ℤ v
between_low a b v w (inl h) = omega (arith, ints, h.0, scaled_le (int_min a b) a w (omega (arith, ints, clamps)))
between_low a b v w (inr h) = omega (arith, ints, h.0, scaled_le (int_min a b) b w (omega (arith, ints, clamps)))

between_high : (a b v : ℤ) (w : ℕ) → IsBetween (a *ℤ pos w) (b *ℤ pos w) v → v ≤ℤ (int_max a b *ℤ pos w)
between_high a b v w (inl h) = omega (arith, ints, h.1, scaled_le b (int_max a b) w (omega (arith, ints, clamps)))
between_high a b v w (inr h) = omega (arith, ints, h.1, scaled_le a (int_max a b) w (omega (arith, ints, clamps)))

across_low : (a b v : ℤ) (w : ℕ) → a ≤ℤ b → IsBetween (a *ℤ pos w) (b *ℤ pos w) v → (a *ℤ pos w) ≤ℤ v
across_low a b v w u (inl h) = h.0
across_low a b v w u (inr h) = omega (arith, ints, h.0, h.1, scaled_le a b w u)

across_high : (a b v : ℤ) (w : ℕ) → a ≤ℤ b → IsBetween (a *ℤ pos w) (b *ℤ pos w) v → v ≤ℤ (b *ℤ pos w)
across_high a b v w u (inl h) = h.1
across_high a b v w u (inr h) = omega (arith, ints, h.0, h.1, scaled_le a b w u)

pub box_holds : (s : Segment) (p : Point) → IsSegment s → OnSegment s p → RectHolds (box_of s) p
box_holds s p g o =
    let u = ends_rise s g in
    record {
      left = across_low s.lo.x s.hi.x p.x p.w u o.across;
      right = across_high s.lo.x s.hi.x p.x p.w u o.across;
      below = between_low s.lo.y s.hi.y p.y p.w o.along;
      above = between_high s.lo.y s.hi.y p.y p.w o.along;
    }

pub apart_by_box : (s t : Segment) → IsSegment s → IsSegment t → ¬ (RectsMeet (box_of s) (box_of t)) → NoneShared s t
apart_by_box s t g h n = record { never = λ p o q. n (p, box_holds s p g o, box_holds t p h q) }

pub rect_same : {a b c d i j k l : ℤ} → a ≡ i → b ≡ j → c ≡ k → d ≡ l → rect_of a b c d ≡ rect_of i j k l
rect_same e f g h = rw (e, f, g, h) refl

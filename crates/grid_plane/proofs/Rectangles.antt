-- Rectangles that meet, those that lie in another, and the least and the greatest of two.
use Rattle.std.proofs.Common.{◌≡◌, ℕ, ◌<◌, ℤ, pos, ◌*ℤ◌, ◌≤ℤ◌, ◌↔◌, arith}
use Rattle.std.specs.Bool.{Decides}
use Rattle.std.proofs.lemmas.Bool.Decides.{Decides-and, Decides-like}
use Rattle.std.proofs.lemmas.Int.{ints, clamps}
use Rattle.std.specs.Int.{int_max, int_min}
use Rattle.plane_terms.specs.Point.{Place, Point, IsAt, point, point_at}
use Rattle.plane_terms.specs.Rectangle.{Rectangle, RectHolds, RectsMeet, IsWithin, IsProper, is_within, rects_meet, rect_at, join_of}
use Rattle.plane_terms.specs.Rectangle.{part_of}
use Rattle.number_laws.proofs.Order.{le_from_scaled, scaled_le}
use Rattle.number_laws.proofs.Tests.{Decides-int_le}
use Rattle.grid_plane.specs.Rectangles.{HoldsAt, IsJoin, IsPart}

-- ---- meeting
ordered : (a b x : ℤ) (w : ℕ) → 0 < w → (a *ℤ pos w) ≤ℤ x → x ≤ℤ (b *ℤ pos w) → a ≤ℤ b
ordered a b x w p h k = le_from_scaled a b w p (omega (arith, ints))

abbrev pub AreCrossing : Rectangle → Rectangle → Type 0
AreCrossing r s = (r.x0 ≤ℤ s.x1) × ((s.x0 ≤ℤ r.x1) × ((r.y0 ≤ℤ s.y1) × (s.y0 ≤ℤ r.y1)))

pub crossing : (r s : Rectangle) → RectsMeet r s → AreCrossing r s
crossing r s h =
    let p = h.0 in (
      ordered r.x0 s.x1 p.x p.w p.positive h.1.left h.2.right,
      (
        ordered s.x0 r.x1 p.x p.w p.positive h.2.left h.1.right,
        (ordered r.y0 s.y1 p.y p.w p.positive h.1.below h.2.above, ordered s.y0 r.y1 p.y p.w p.positive h.2.below h.1.above),
      ),
    )

common : (r s : Rectangle) → IsProper r → IsProper s → AreCrossing r s → RectsMeet r s
common r s g h k = (
  point (int_max r.x0 s.x0) (int_max r.y0 s.y0),
  omega (arith, ints, clamps, k.0, k.1.0, k.1.1.0, k.1.1.1),
  omega
      (arith, ints, clamps, k.0, k.1.0, k.1.1.0, k.1.1.1),
)

Decides-crossing : (r s : Rectangle) → Decides (rects_meet r s) (AreCrossing r s)
Decides-crossing r s =
    Decides-and _ _ (Decides-int_le r.x0 s.x1)
    (Decides-and _ _ (Decides-int_le s.x0 r.x1) (Decides-and _ _ (Decides-int_le r.y0 s.y1) (Decides-int_le s.y0 r.y1)))

pub Decides-rects_meet : (r s : Rectangle) → IsProper r → IsProper s → Decides (rects_meet r s) (RectsMeet r s)
Decides-rects_meet r s g h = Decides-like _ (common r s g h) (crossing r s) (Decides-crossing r s)

-- ---- lying in another
within : (r s : Rectangle) → (s.x0 ≤ℤ r.x0) × ((r.x1 ≤ℤ s.x1) × ((s.y0 ≤ℤ r.y0) × (r.y1 ≤ℤ s.y1))) → IsWithin r s
within r s h = record { left = h.0; right = h.1.0; below = h.1.1.0; above = h.1.1.1 }

pub Decides-is_within : (r s : Rectangle) → Decides (is_within r s) (IsWithin r s)
Decides-is_within r s =
    Decides-like _ (within r s) (λ h. (h.left, (h.right, (h.below, h.above))))
    (Decides-and _ _ (Decides-int_le s.x0 r.x0)
    (Decides-and _ _ (Decides-int_le r.x1 s.x1) (Decides-and _ _ (Decides-int_le s.y0 r.y0) (Decides-int_le r.y1 s.y1))))

-- of one place
pub held_place : (q : Place) (r : Rectangle) → IsWithin (rect_at q) r ↔ HoldsAt q (RectHolds r)
held_place q r = (λ h p a. at_point h p a, λ h. from_place (h (point_at q) (record { x = one q.x; y = one q.y })))
  where
    one : (v : ℤ) → v ≡ v *ℤ pos 1
    one v = omega (arith, ints)

    at_point : IsWithin (rect_at q) r → (p : Point) → IsAt q p → RectHolds r p
    at_point h p a =
        let e = scaled_le r.x0 q.x p.w h.left in
        let f = scaled_le q.x r.x1 p.w h.right in
        let g = scaled_le r.y0 q.y p.w h.below in
        let i = scaled_le q.y r.y1 p.w h.above in
        record {
          left = omega (arith, ints, e, a.x);
          right = omega (arith, ints, f, a.x);
          below = omega
              (arith, ints, g, a.y);
          above = omega (arith, ints, i, a.y);
        }

    from_place : RectHolds r (point_at q) → IsWithin (rect_at q) r
    from_place h = record {
      left = omega (arith, ints, h.left);
      right = omega (arith, ints, h.right);
      below = omega
          (arith, ints, h.below);
      above = omega (arith, ints, h.above);
    }

-- ---- the least that holds both, and what both hold
pub joined : (r s : Rectangle) → IsJoin (join_of r s) r s
joined r s = record {
  first = record {
    left = omega (arith, ints, clamps);
    right = omega (arith, ints, clamps);
    below = omega
        (arith, ints, clamps);
    above = omega (arith, ints, clamps);
  };
  second = record {
    left = omega (arith, ints, clamps);
    right = omega (arith, ints, clamps);
    below = omega
        (arith, ints, clamps);
    above = omega (arith, ints, clamps);
  };
  least = λ t h k. record {
    left = omega (arith, ints, clamps, h.left, k.left);
    right = omega
        (arith, ints, clamps, h.right, k.right);
    below = omega (arith, ints, clamps, h.below, k.below);
    above = omega
        (arith, ints, clamps, h.above, k.above);
  };
}

greatest : (a b x : ℤ) (w : ℕ) → ((int_max a b *ℤ pos w) ≤ℤ x) ↔ (((a *ℤ pos w) ≤ℤ x) × ((b *ℤ pos w) ≤ℤ x))
greatest a b x w = (
  λ h. (
    omega (arith, ints, scaled_le a (int_max a b) w (omega (arith, ints, clamps))),
    omega
        (arith, ints, scaled_le b (int_max a b) w (omega (arith, ints, clamps))),
  ),
  λ h. chosen h.0 h.1,
)
  where
    chosen : (a *ℤ pos w) ≤ℤ x → (b *ℤ pos w) ≤ℤ x → (int_max a b *ℤ pos w) ≤ℤ x
    chosen h k = grind (arith, ints, clamps)

least : (a b x : ℤ) (w : ℕ) → (x ≤ℤ (int_min a b *ℤ pos w)) ↔ ((x ≤ℤ (a *ℤ pos w)) × (x ≤ℤ (b *ℤ pos w)))
least a b x w = (
  λ h. (
    omega (arith, ints, scaled_le (int_min a b) a w (omega (arith, ints, clamps))),
    omega
        (arith, ints, scaled_le (int_min a b) b w (omega (arith, ints, clamps))),
  ),
  λ h. chosen h.0 h.1,
)
  where
    chosen : x ≤ℤ (a *ℤ pos w) → x ≤ℤ (b *ℤ pos w) → x ≤ℤ (int_min a b *ℤ pos w)
    chosen h k = grind (arith, ints, clamps)

pub parted : (r s : Rectangle) → IsPart (part_of r s) r s
parted r s = record {
  points = λ p. (
    λ h. (
      record {
        left = ((greatest r.x0 s.x0 p.x p.w).0 h.left).0;
        right = ((least r.x1 s.x1 p.x p.w).0 h.right).0;
        below =
            ((greatest r.y0 s.y0 p.y p.w).0 h.below).0;
        above = ((least r.y1 s.y1 p.y p.w).0 h.above).0;
      },
      record {
        left = ((greatest r.x0 s.x0 p.x p.w).0 h.left).1;
        right = ((least r.x1 s.x1 p.x p.w).0 h.right).1;
        below =
            ((greatest r.y0 s.y0 p.y p.w).0 h.below).1;
        above = ((least r.y1 s.y1 p.y p.w).0 h.above).1;
      },
    ),
    λ h. record {
      left = (greatest r.x0 s.x0 p.x p.w).1 (h.0.left, h.1.left);
      right = (least r.x1 s.x1 p.x p.w).1
          (h.0.right, h.1.right);
      below = (greatest r.y0 s.y0 p.y p.w).1 (h.0.below, h.1.below);
      above = (least r.y1 s.y1 p.y p.w).1
          (h.0.above, h.1.above);
    },
  );
}

-- What holds of a place of the grid, and of each point that is at it.
use Rattle.std.specs.List.{HoldsAt, AllWithin}
use Rattle.std.proofs.lemmas.Bool.{false≢true}
use Rattle.std.proofs.Common.{IsTrue, MatchBool, Bool, true, false, refl, ◌↔◌, inl, inr, ℕ, ◌≤ℤ◌, List, [], ◌∷◌, length, get_or, zero, suc, arith, ◌<◌}
use Rattle.std.proofs.lemmas.Int.{ints}
use Rattle.plane_terms.specs.Lists.{SomeOf}
use Rattle.plane_terms.specs.Point.{Place, Point, IsAt}
use Rattle.plane_terms.specs.Rectangle.{Rectangle, RectHolds}
use Rattle.plane_terms.specs.Cell.{InCells, at_place}
use Rattle.cell_laws.proofs.Outside.{at_place_points}
use Rattle.sound_laws.proofs.Planes.{le_from_scaled, scaled_le}

-- by the place's own coordinates
pub record IsHeld (r : Rectangle) (q : Place) : Type 0 where
  pub left : r.x0 ≤ℤ q.x
  pub right : q.x ≤ℤ r.x1
  pub below : r.y0 ≤ℤ q.y
  pub above : q.y ≤ℤ r.y1

held_at : (r : Rectangle) (q : Place) (p : Point) → IsAt q p → RectHolds r p → IsHeld r q
held_at r q p i h = record {
  left = le_from_scaled r.x0 q.x p.w p.positive (omega (arith, ints, h.left, i.x));
  right = le_from_scaled q.x r.x1 p.w p.positive (omega (arith, ints, h.right, i.x));
  below = le_from_scaled r.y0 q.y p.w p.positive (omega (arith, ints, h.below, i.y));
  above = le_from_scaled q.y r.y1 p.w p.positive (omega (arith, ints, h.above, i.y));
}

holds_at : (r : Rectangle) (q : Place) (p : Point) → IsAt q p → IsHeld r q → RectHolds r p
holds_at r q p i h = record {
  left = omega (arith, ints, i.x, scaled_le r.x0 q.x p.w h.left);
  right = omega (arith, ints, i.x, scaled_le q.x r.x1 p.w h.right);
  below = omega (arith, ints, i.y, scaled_le r.y0 q.y p.w h.below);
  above = omega (arith, ints, i.y, scaled_le q.y r.y1 p.w h.above);
}

pub held_points : (r : Rectangle) (q : Place) (p : Point) → IsAt q p → IsHeld r q ↔ RectHolds r p
held_points r q p i = (holds_at r q p i, held_at r q p i)

-- the one cell of a place holds the points that are at it
pub cells_points : (q : Place) (p : Point) → InCells (at_place q ∷ []) p ↔ IsAt q p
cells_points q p = (
  (λ h. elim h [ inl c ↦ (at_place_points q p).0 c | inr n ↦ absurd n ]),
  (λ i. inl ((at_place_points q p).1 i)),
)

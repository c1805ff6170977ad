-- What a cell leaves of the first coordinate along a direction.
--
-- IsShadow d c r    the range r holds the first coordinates of the points of c, seen along d, and no others
use Rattle.std.specs.Prelude.{◌≡◌, ℕ, ℤ, pos, ◌<◌, ◌*ℤ◌}
use Rattle.plane_terms.specs.Point.{Point}
use Rattle.plane_terms.specs.Cell.{Cell, InCell}
use Rattle.convex_cell.specs.declared.direction.Direction.{Direction}
use Rattle.convex_cell.specs.declared.range.Range.{Range}
use Rattle.convex_cell.specs.Range.{InRange}
use Rattle.convex_cell.specs.Seen.{cell_seen}

pub record IsShadow (d : Direction) (c : Cell) (r : Range) : Type 0 where
  pub reaches : (q : Point) → InCell (cell_seen d c) q → InRange r q.x q.w
  pub reached : (t : ℤ) → (w : ℕ) → 0 < w → InRange r t w → (q : Point) × InCell (cell_seen d c) q × (q.x *ℤ pos w ≡ t *ℤ pos q.w)

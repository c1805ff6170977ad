-- The walls and columns up to the last wall, and the segments that reach a stretch of them.
--
-- strips even ss x ys    the cells of each wall from x on and of the column to its right; without the last wall
-- reaches x y s          an end of s is at y or before, and an end at x or beyond
use Rattle.std.specs.Prelude.{ℤ, Bool, ◌&&◌, ◌||◌, List, [], ◌∷◌, ◌++◌, None, int_le}
use Rattle.plane_terms.specs.Segment.{Segment}
use Rattle.plane_terms.specs.Cell.{Cell}
use Rattle.plane_terms.specs.Columns.{column, slots, wall, in_column}

abbrev pub strips : Bool → List Segment → ℤ → List ℤ → List Cell
strips even ss x [] = []
strips even ss x (y ∷ ys) = (wall even x ss (column x y ss) ++ in_column x y (slots even None (column x y ss))) ++ strips even ss y ys

abbrev pub reaches : ℤ → ℤ → Segment → Bool
reaches x y s = (int_le s.lo.x y || int_le s.hi.x y) && (int_le x s.lo.x || int_le x s.hi.x)

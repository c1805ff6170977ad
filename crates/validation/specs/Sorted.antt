-- Rectangles by their least abscissas, so that those near another are looked up in few steps.
--
-- west s             the least abscissa of the rectangle
-- IsUpTo w s         the rectangle is no wider than w
-- RunsEast ss        the rectangles stand by their least abscissas
use Rattle.std.specs.Prelude.{ℤ, ◌+ℤ◌, ◌≤ℤ◌, List}
use Rattle.std.specs.List.Sorted.{IsSortedByKey}
use Rattle.std.specs.Ordering.{int_cmp}
use Rattle.plane_terms.specs.Rectangle.{Rectangle}

abbrev pub west : Rectangle → ℤ
west s = s.x0

abbrev pub IsUpTo : ℤ → Rectangle → Type 0
IsUpTo w s = s.x1 ≤ℤ (s.x0 +ℤ w)

abbrev pub RunsEast : List Rectangle → Type 0
RunsEast ss = IsSortedByKey west int_cmp ss

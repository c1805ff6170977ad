-- How far cells reach, and which frames stand.
--
-- Reaches h cs      the half-plane h holds at some point of the cells
-- HoldsAll r cs     r holds every point of the cells
-- ReachesSides r cs    less than 1 from each side of r, or beyond that side, there is a point of the cells
-- Stands d o r      some point of r is dirty, or there is an envelope o and r lies in it
--
-- A rectangle that holds all of the cells, each of whose sides they reach, is the least one. No point reaches a side of cells
-- without any: no rectangle is the least one of those.
use Rattle.std.specs.Prelude.{◌≡◌, ◌⊎◌, pos, ◌+ℤ◌, ◌-ℤ◌, List, Option, Some}
use Rattle.plane_terms.specs.Point.{Point}
use Rattle.plane_terms.specs.Rectangle.{Rectangle, RectHolds, IsWithin}
use Rattle.plane_terms.specs.HalfPlane.{HalfPlane, Holds, x_over, x_under, y_over, y_under}
use Rattle.plane_terms.specs.Cell.{Cell, InCells}
use Rattle.plane_terms.specs.Dirt.{MeetsDirt}

abbrev pub Reaches : HalfPlane → List Cell → Type 0
Reaches h cs = (p : Point) × InCells cs p × Holds h p

abbrev pub HoldsAll : Rectangle → List Cell → Type 0
HoldsAll r cs = (p : Point) → InCells cs p → RectHolds r p

pub record ReachesSides (r : Rectangle) (cs : List Cell) : Type 0 where
  pub left : Reaches (x_under (r.x0 +ℤ pos 1)) cs
  pub right : Reaches (x_over (r.x1 -ℤ pos 1)) cs
  pub below : Reaches (y_under (r.y0 +ℤ pos 1)) cs
  pub above : Reaches (y_over (r.y1 -ℤ pos 1)) cs

abbrev pub Stands : List Rectangle → Option Rectangle → Rectangle → Type 0
Stands d o r = MeetsDirt d r ⊎ ((s : Rectangle) × (o ≡ Some s) × IsWithin r s)

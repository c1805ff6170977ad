-- Rectangles as the code makes and tests them.
--
-- IsRectFault e r         the four numbers of r are no rectangle of the grid, and e says why
-- HoldsAt q P             P holds at the place q: at each point that is there
-- IsJoin j r s            j is the least rectangle that holds both r and s
-- IsPart m r s            m holds exactly the points that both hold
use Rattle.std.specs.Prelude.{◌↔◌}
use Rattle.plane_terms.specs.Lists.{Every}
use Rattle.plane_terms.specs.Point.{Place, Point, InReach, IsAt}
use Rattle.plane_terms.specs.Rectangle.{Rectangle, RectHolds, IsWithin, IsProper, numbers_of, IsFirstOut}
use Rattle.grid_plane.specs.declared.fault.RectFault.{RectFault}
use Rattle.grid_plane.specs.declared.fault.RectFault.TheVariants.{OutOfReach, Reversed}

abbrev pub IsRectFault : RectFault → Rectangle → Type 0
IsRectFault (OutOfReach at) r = IsFirstOut at (numbers_of r)
IsRectFault Reversed r = Every InReach (numbers_of r) × ¬ (IsProper r)

abbrev pub HoldsAt : Place → (Point → Type 0) → Type 0
HoldsAt q P = (p : Point) → IsAt q p → P p

pub record IsJoin (j r s : Rectangle) : Type 0 where
  pub first : IsWithin r j
  pub second : IsWithin s j
  pub least : (t : Rectangle) → IsWithin r t → IsWithin s t → IsWithin j t

pub record IsPart (m r s : Rectangle) : Type 0 where
  pub points : (p : Point) → RectHolds m p ↔ (RectHolds r p × RectHolds s p)

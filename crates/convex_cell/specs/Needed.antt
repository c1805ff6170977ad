-- The half-planes of a cell that say more than how far it reaches.
--
-- FitsReach r         the ends of r are whole numbers of at most 2^23
-- Reaches r t w       t / w lies between the ends of r, or at one
-- IsInFrame x y p     p lies between the ends of x along x, and between those of y along y
-- closed_of a b c     the closed half-plane of these numbers
-- SameCells c d       c and d have the same points
use Rattle.std.specs.Prelude.{◌↔◌, ◌≤◌, ◌^◌, ℕ, ℤ, pos, ◌*ℤ◌, ◌≤ℤ◌, unsigned_abs, All}
use Rattle.plane_terms.specs.Point.{Point}
use Rattle.plane_terms.specs.HalfPlane.{HalfPlane, Holds}
use Rattle.plane_terms.specs.declared.op.Op.TheVariants.{AtLeast}
use Rattle.plane_terms.specs.Cell.{Cell}
use Rattle.convex_cell.specs.declared.needed.Reach.{Reach}

pub record FitsReach (r : Reach) : Type 0 where
  pub from : unsigned_abs r.from ≤ 2 ^ 23
  pub to : unsigned_abs r.to ≤ 2 ^ 23

pub record Reaches (r : Reach) (t : ℤ) (w : ℕ) : Type 0 where
  pub after : (r.from *ℤ pos w) ≤ℤ t
  pub before : t ≤ℤ (r.to *ℤ pos w)

pub record IsInFrame (x y : Reach) (p : Point) : Type 0 where
  pub along : Reaches x p.x p.w
  pub up : Reaches y p.y p.w

abbrev pub closed_of : ℤ → ℤ → ℤ → HalfPlane
closed_of a b c = record { a = a; b = b; c = c; op = AtLeast }

abbrev pub SameCells : Cell → Cell → Type 0
SameCells c d = (p : Point) → All (λ h. Holds h p) c ↔ All (λ h. Holds h p) d

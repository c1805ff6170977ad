-- Findings of which each has a frame.
--
-- IsFramable x         a finding with cells has some, each with a point, and all their points are on the grid
use Rattle.std.specs.Prelude.{◌≡◌, ◌≢◌, false, []}
use Rattle.plane_terms.specs.Lists.{Every}
use Rattle.plane_terms.specs.Point.{Point}
use Rattle.plane_terms.specs.Rectangle.{RectHolds, whole_grid}
use Rattle.plane_terms.specs.Cell.{Cell, InCell, HavePoints}
use Rattle.topology_terms.specs.Meaning.{Finding}

pub record IsFramable (x : Finding) : Type 0 where
  pub some : x.whole ≡ false → x.cells ≢ []
  pub points : HavePoints x.cells
  pub on_grid : x.whole ≡ false → Every (λ (c : Cell). (p : Point) → InCell c p → RectHolds whole_grid p) x.cells

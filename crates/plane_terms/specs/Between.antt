-- Points between two points of the plane, on the grid or not.
--
-- GoOneWay a b             the numbers a and b are not on opposite sides of 0
-- LiesBetween p q r        r is on the segment that joins p and q, its ends included: r is in line with p and q, and from p to r and on
--                          from r to q it goes one way, both across and along; where p and q are one point, r is that point
-- IsClearBetween ss p q    no point between p and q is on one of the segments
--
-- Each says the same of all triples of a point. `OnSegment` speaks of segments between places of the grid.
-- Source: the relation "between", textbook geometry.
use Rattle.std.specs.Prelude.{◌≡◌, ℤ, pos, ◌*ℤ◌, ◌≤ℤ◌, List, ◌⊎◌}
use Rattle.plane_terms.specs.Point.{Point, right_by, up_by}
use Rattle.plane_terms.specs.Segment.{Segment}
use Rattle.plane_terms.specs.Polygon.{OnBoundary}

abbrev pub GoOneWay : ℤ → ℤ → Type 0
GoOneWay a b = ((pos 0 ≤ℤ a) × (pos 0 ≤ℤ b)) ⊎ ((a ≤ℤ pos 0) × (b ≤ℤ pos 0))

pub record LiesBetween (p q r : Point) : Type 0 where
  pub straight : right_by p q *ℤ up_by p r ≡ up_by p q *ℤ right_by p r
  pub across : GoOneWay (right_by p r) (right_by r q)
  pub along : GoOneWay (up_by p r) (up_by r q)

pub record IsClearBetween (ss : List Segment) (p q : Point) : Type 0 where
  pub each : (r : Point) → LiesBetween p q r → ¬ (OnBoundary ss r)

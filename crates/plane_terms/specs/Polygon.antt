-- Polygons by crossing number, over the list of their segments.
--
-- OnBoundary ss p    p is on one of the segments
-- counts s p         the segment runs below p: lo.x <= p.x < hi.x, and p is strictly above; a vertical one never does
-- IsInside ss p      not on the boundary, and an odd number of segments count; open
-- IsInClosure ss p   inside or on the boundary; closed
-- IsOutside ss p     not in the closure, said without the sum: not on the boundary, and no odd number
--
-- Rings, their orientation and nesting play no part. The number of no segments is even: a point left of all is outside.
-- Source: the crossing number with the half-open convention, textbook geometry.
use Rattle.std.specs.Prelude.{◌≡◌, pos, ◌*ℤ◌, Bool, true, ◌&&◌, List, ◌⊎◌, int_lt, int_le}
use Rattle.plane_terms.specs.Lists.{Every, SomeOf, EveryPair, how_many, is_odd}
use Rattle.plane_terms.specs.Point.{Point}
use Rattle.plane_terms.specs.Segment.{Segment, IsSegment, cross, OnSegment, MeetAtEnds}

abbrev pub OnBoundary : List Segment → Point → Type 0
OnBoundary ss p = SomeOf (λ s. OnSegment s p) ss

abbrev pub counts : Segment → Point → Bool
counts s p = int_le (s.lo.x *ℤ pos p.w) p.x && (int_lt p.x (s.hi.x *ℤ pos p.w) && int_lt (pos 0) (cross s p))

pub record IsInside (ss : List Segment) (p : Point) : Type 0 where
  pub clear : ¬ (OnBoundary ss p)
  pub odd : is_odd (how_many (λ s. counts s p) ss) ≡ true

abbrev pub IsInClosure : List Segment → Point → Type 0
IsInClosure ss p = IsInside ss p ⊎ OnBoundary ss p

pub record IsOutside (ss : List Segment) (p : Point) : Type 0 where
  pub clear : ¬ (OnBoundary ss p)
  pub even : ¬ (is_odd (how_many (λ s. counts s p) ss) ≡ true)

-- what the columns need of the list, and what the segments of every polygon keep
pub record IsSimpleList (ss : List Segment) : Type 0 where
  pub proper : Every IsSegment ss
  pub simple : EveryPair MeetAtEnds ss

-- What an upright segment covers of a wall.
--
-- is_upright x s     both ends of s are at x
-- covers x s a b     the upright segment s at x covers what is between a and b
use Rattle.std.specs.Prelude.{ℤ, Bool, ◌&&◌, int_le}
use Rattle.plane_terms.specs.Segment.{Segment}

abbrev pub covers : ℤ → Segment → ℤ → ℤ → Bool
covers x s a b = int_le s.lo.x x && int_le x s.lo.x && (int_le s.hi.x x && int_le x s.hi.x) && (int_le s.lo.y a && int_le b s.hi.y)

abbrev pub is_upright : ℤ → Segment → Bool
is_upright x s = int_le s.lo.x x && int_le x s.lo.x && (int_le s.hi.x x && int_le x s.hi.x)

-- Segments in the order of their height in the middle of a column.
--
-- is_under a b       the first is lower there
-- IsRank x y r       r has the width of its segment, and that times minus twice its height in the middle between x and y
-- IsRankOf x y s r   r is such a rank of s
-- passes x y s       s goes from x or before to y or beyond
use Rattle.std.specs.Prelude.{◌≡◌, ℤ, pos, ◌+ℤ◌, ◌*ℤ◌, ◌-ℤ◌, Bool, int_lt, int_le, ◌&&◌}
use Rattle.plane_terms.specs.Segment.{Segment}
use Rattle.column_cut.specs.declared.ranked.Ranked.{Ranked}

abbrev pub is_under : Ranked → Ranked → Bool
is_under a b = int_lt (b.level *ℤ a.width) (a.level *ℤ b.width)

pub record IsRank (x y : ℤ) (r : Ranked) : Type 0 where
  pub width : r.width ≡ r.segment.hi.x -ℤ r.segment.lo.x
  pub level : r.level ≡ (pos 2 *ℤ r.segment.lo.x -ℤ (x +ℤ y)) *ℤ (r.segment.hi.y -ℤ r.segment.lo.y) -ℤ (pos 2 *ℤ r.segment.lo.y) *ℤ
      (r.segment.hi.x -ℤ r.segment.lo.x)

pub record IsRankOf (x y : ℤ) (s : Segment) (r : Ranked) : Type 0 where
  pub segment : r.segment ≡ s
  pub rank : IsRank x y r

abbrev pub passes : ℤ → ℤ → Segment → Bool
passes x y s = int_le s.lo.x x && int_le y s.hi.x

abbrev pub segment_of : Ranked → Segment
segment_of r = r.segment

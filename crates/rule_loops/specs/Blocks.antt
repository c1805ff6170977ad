-- The segments of a shape in blocks: 32 in each, the last maybe of fewer; or all in one, where there are no more than 64.
--
-- block_size ts       how many segments a block has at most
-- block_count ts      how many blocks there are, one at least
-- left_from k ts      the segments from the block of number k on
-- block_of k ts       those of the block of number k
-- between i j ts      the segments from number i to before number j
-- reaches_below r q   a segment in the rectangle r may run below the place q: the span of r along x holds q, and r begins below q
use Rattle.std.specs.Prelude.{ℕ, ◌+◌, ◌*◌, ◌/◌, ◌-◌, nat_lt, int_le, int_lt, Bool, ◌&&◌, List, length, take, drop, if◌then◌else◌}
use Rattle.plane_terms.specs.Point.{Place}
use Rattle.plane_terms.specs.Rectangle.{Rectangle}
use Rattle.plane_terms.specs.Segment.{Segment}

abbrev pub block_size : List Segment → ℕ
block_size ts = if nat_lt 64 (length ts) then 32 else 64

abbrev pub block_count : List Segment → ℕ
block_count ts = if nat_lt 64 (length ts) then (length ts + 31) / 32 else 1

abbrev pub left_from : ℕ → List Segment → List Segment
left_from k ts = drop (block_size ts * k) ts

abbrev pub block_of : ℕ → List Segment → List Segment
block_of k ts = take (block_size ts) (left_from k ts)

abbrev pub between : ℕ → ℕ → List Segment → List Segment
between i j ts = take (j - i) (drop i ts)

abbrev pub reaches_below : Rectangle → Place → Bool
reaches_below r q = int_le r.x0 q.x && (int_lt q.x r.x1 && int_lt r.y0 q.y)

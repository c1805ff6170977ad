-- Rectangles round blocks of segments.
--
-- IsRound r ts       each of these segments has its lower end before its upper one, and lies in the rectangle r
-- frame_count ts     how many blocks of 32 segments there are, the last maybe of fewer; none where there are no more than 64 segments
-- AreFrames rs ts    as many rectangles, the one of number k round the 32 segments from number 32 k on
use Rattle.std.specs.Prelude.{◌≡◌, ℕ, ◌+◌, ◌*◌, ◌/◌, nat_lt, List, length, take, drop, slice_get, Some, if◌then◌else◌}
use Rattle.plane_terms.specs.Lists.{Every}
use Rattle.plane_terms.specs.Rectangle.{Rectangle, IsWithin}
use Rattle.plane_terms.specs.Segment.{Segment, IsSegment, box_of}

abbrev pub IsRound : Rectangle → List Segment → Type 0
IsRound r ts = Every (λ (t : Segment). IsSegment t × IsWithin (box_of t) r) ts

abbrev pub frame_count : List Segment → ℕ
frame_count ts = if nat_lt 64 (length ts) then (length ts + 31) / 32 else 0

pub record AreFrames (rs : List Rectangle) (ts : List Segment) : Type 0 where
  pub count : length rs ≡ frame_count ts
  pub round : (k : ℕ) (r : Rectangle) → slice_get rs k ≡ Some r → IsRound r (take 32 (drop (32 * k) ts))

-- How far a segment has to look among those that come after it.
--
-- AreAhead rs ts   the rectangle of number k, where there is one, is round the segments from number k on
-- IsOff s ts       each of these segments has its lower end before its upper one, and its box does not meet that of s
use Rattle.std.specs.Prelude.{◌≡◌, ℕ, false, List, drop, slice_get, Some}
use Rattle.plane_terms.specs.Lists.{Every}
use Rattle.plane_terms.specs.Rectangle.{Rectangle}
use Rattle.plane_terms.specs.Segment.{Segment, IsSegment}
use Rattle.topology_terms.specs.Cells.{box_meets}
use Rattle.shape.specs.Frames.{IsRound}

abbrev pub AreAhead : List Rectangle → List Segment → Type 0
AreAhead rs ts = (k : ℕ) (r : Rectangle) → slice_get rs k ≡ Some r → IsRound r (drop k ts)

abbrev pub IsOff : Segment → List Segment → Type 0
IsOff s ts = Every (λ (t : Segment). IsSegment t × (box_meets s t ≡ false)) ts

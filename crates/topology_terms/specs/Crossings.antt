-- Where a line crosses itself: two of its segments, each told by the number of its part and its number in it, both from 0.
--
-- AreNeighbours k i l j    the segment i of the part k and the segment j of the part l: of one part, and one comes just after the other
-- IsCrossed f p            two different segments of f hold p, which are no neighbours, or overlap
--
-- Neighbours have the vertex between them in common; if they do not overlap, it is all they have in common. The first and the last
-- segment of a closed part are not neighbours here.
use Rattle.std.specs.Prelude.{◌≡◌, ◌≢◌, ◌⊎◌, ℕ, ◌+◌}
use Rattle.plane_terms.specs.Point.{Point}
use Rattle.plane_terms.specs.Segment.{Segment, OnSegment, Overlap}
use Rattle.plane_terms.specs.Line.{IsSegmentOfPart}
use Rattle.topology_terms.specs.Feature.{Feature}

abbrev pub AreNeighbours : ℕ → ℕ → ℕ → ℕ → Type 0
AreNeighbours k i l j = (k ≡ l) × ((j ≡ i + 1) ⊎ (i ≡ j + 1))

pub record IsCrossed (f : Feature) (p : Point) : Type 0 where
  pub k : ℕ
  pub i : ℕ
  pub s : Segment
  pub l : ℕ
  pub j : ℕ
  pub t : Segment
  pub first : IsSegmentOfPart f.shape k i s
  pub second : IsSegmentOfPart f.shape l j t
  pub different : (k ≢ l) ⊎ (i ≢ j)
  pub on_first : OnSegment s p
  pub on_second : OnSegment t p
  pub apart : ¬ (AreNeighbours k i l j) ⊎ Overlap s t

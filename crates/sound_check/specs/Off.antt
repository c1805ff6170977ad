-- Points outside of the cells of a list.
--
-- OffFrom ds k p       p is in no cell of ds from the place k on
-- HasOff ds k c        c has such a point
-- HasNoneOff ds k c    c has none
-- HaveOff ds cs        some point of cs is in no cell of ds
-- HaveNoneOff ds cs    no point of cs is in no cell of ds
-- OffBetween ds j k p   p is in no cell of ds from the place j on, and before k
-- IsClearTo ds j k c   no cell of ds from the place j on, and before k, has a point of c
-- IsOutsideAt ds k es  es hold exactly the points that are not in the cell of ds at the place k
use Rattle.std.specs.Prelude.{◌≡◌, ◌↔◌, ◌≤◌, ◌<◌, ℕ, List, Some, slice_get}
use Rattle.plane_terms.specs.Point.{Point}
use Rattle.plane_terms.specs.Cell.{Cell, InCell, InCells}

abbrev pub OffFrom : List Cell → ℕ → Point → Type 0
OffFrom ds k p = (j : ℕ) → (d : Cell) → slice_get ds j ≡ Some d → k ≤ j → ¬ (InCell d p)

abbrev pub OffBetween : List Cell → ℕ → ℕ → Point → Type 0
OffBetween ds j k p = (i : ℕ) → (d : Cell) → slice_get ds i ≡ Some d → j ≤ i → i < k → ¬ (InCell d p)

abbrev pub HasOff : List Cell → ℕ → Cell → Type 0
HasOff ds k c = (p : Point) × InCell c p × OffFrom ds k p

abbrev pub HasNoneOff : List Cell → ℕ → Cell → Type 0
HasNoneOff ds k c = (p : Point) → InCell c p → ¬ (OffFrom ds k p)

abbrev pub HaveOff : List Cell → List Cell → Type 0
HaveOff ds cs = (p : Point) × InCells cs p × OffFrom ds 0 p

abbrev pub HaveNoneOff : List Cell → List Cell → Type 0
HaveNoneOff ds cs = (p : Point) → InCells cs p → ¬ (OffFrom ds 0 p)

abbrev pub IsClearTo : List Cell → ℕ → ℕ → Cell → Type 0
IsClearTo ds j k c = (i : ℕ) → (d : Cell) → slice_get ds i ≡ Some d → j ≤ i → i < k → (p : Point) → InCell c p → ¬ (InCell d p)

abbrev pub IsOutsideAt : List Cell → ℕ → List Cell → Type 0
IsOutsideAt ds k es = (d : Cell) → slice_get ds k ≡ Some d → (p : Point) → InCells es p ↔ ¬ (InCell d p)

-- What is kept of polygons' cells, so that they need not be made again.
--
-- cells_by r ss     the cells of this region of a polygon of these segments: of its inside, or of what is closed out of it
-- cells_of r s      those of a polygon of the shape s
-- halves_in cs      how many half-planes the cells have in all
-- KeptCells         says that the cells of this region were made of this polygon
-- made_of r s       the cells of the region r were made of the polygon s
-- size_of k         how many half-planes those cells have
-- most_features r   of so many features are cells of the region r kept, at most
-- most_halves r     and so many half-planes in all
-- Keeping           what is kept of a region: the pairs of a handle and what was made of its polygon, the most recently used first
-- total es          how many half-planes all the pairs have
-- IsWithin r room es n    there is room for so many pairs as features are kept of, at most; the pairs have n half-planes, which are not
--                       too many
-- kept_at es h      what is kept for the handle h
-- LeavesRoom r more es    beside these pairs one more can be kept of the region r, of so many half-planes
-- KeepsMost r more old new   what is left of the old pairs where room is made for one of so many half-planes: so many of the most recently
--                       used, in their order, as could be left
-- IsPut r old h k new     what is kept of the region r once k is put in for h: as many of the old pairs are left as leave room for one more,
--                       and k goes first, in the place of what was kept for h
-- looked b es h     after a look-up for the handle h: where it found what it sought, the pair went to the front
use Rattle.std.specs.Prelude.{◌≡◌, ◌+◌, ◌<◌, ◌≤◌, ℕ, Bool, true, false, List, Option, nat_eq, length, take}
use Rattle.std.specs.List.{sum_by}
use Rattle.std.specs.Map.{lookup}
use Rattle.lru.specs.LruCache.{lru_cache, promoted, put_entries}
use Rattle.plane_terms.specs.Cell.{Cell}
use Rattle.plane_terms.specs.Segment.{Segment}
use Rattle.plane_terms.specs.Shape.{Shape, segments_of}
use Rattle.plane_terms.specs.Columns.{inside_cells, outside_cells}
use Rattle.rule_core.specs.declared.region.Region.{Region}
use Rattle.rule_core.specs.declared.region.Region.TheVariants.{Inside, Outside}

abbrev pub cells_by : Region → List Segment → List Cell
cells_by Inside ss = inside_cells ss
cells_by Outside ss = outside_cells ss

abbrev pub cells_of : Region → Shape → List Cell
cells_of r s = cells_by r (segments_of s)

abbrev pub halves_in : List Cell → ℕ
halves_in cs = sum_by (λ (c : Cell). length c) cs

pub record KeptCells : Type 0 where
  pub region : Region
  pub shape : Shape

abbrev pub made_of : Region → Shape → KeptCells
made_of r s = record { region = r; shape = s }

abbrev pub size_of : KeptCells → ℕ
size_of k = halves_in (cells_of k.region k.shape)

abbrev pub most_features : Region → ℕ
most_features Inside = 4096
most_features Outside = 8192

abbrev pub most_halves : Region → ℕ
most_halves Inside = 1048576
most_halves Outside = 655360

pub record Keeping : Type 0 where
  pub region : Region
  pub entries : List (ℕ × KeptCells)

abbrev pub total : List (ℕ × KeptCells) → ℕ
total es = sum_by (λ (e : ℕ × KeptCells). size_of e.1) es

pub record IsWithin (r : Region) (room : ℕ) (es : List (ℕ × KeptCells)) (n : ℕ) : Type 0 where
  pub features : room ≡ most_features r
  pub counted : total es ≡ n
  pub halves : n ≤ most_halves r

abbrev pub kept_at : List (ℕ × KeptCells) → ℕ → Option KeptCells
kept_at es h = lookup (nat_eq h) es

pub record LeavesRoom (r : Region) (more : ℕ) (es : List (ℕ × KeptCells)) : Type 0 where
  pub features : length es < most_features r
  pub halves : total es + more ≤ most_halves r

pub record KeepsMost (r : Region) (more : ℕ) (old new : List (ℕ × KeptCells)) : Type 0 where
  pub recent : new ≡ take (length new) old
  pub most : (n : ℕ) → LeavesRoom r more (take n old) → length (take n old) ≤ length new

pub record IsPut (r : Region) (old : List (ℕ × KeptCells)) (h : ℕ) (k : KeptCells) (new : List (ℕ × KeptCells)) : Type 0 where
  pub left : List (ℕ × KeptCells)
  pub room : LeavesRoom r (size_of k) left
  pub most : KeepsMost r (size_of k) old left
  pub put : new ≡ put_entries nat_eq (lru_cache left (most_features r)) h k

abbrev pub looked : Bool → List (ℕ × KeptCells) → ℕ → List (ℕ × KeptCells)
looked true es h = promoted (nat_eq h) es
looked false es h = es

-- Cells that polygons may cover, before they are carved in full.
--
-- chosen A e g           g is of the side A, and is not the feature of the handle e, where one is given
-- outsides A e F         of each feature of F that is chosen, the cells of what is closed out of it
-- IsInEach dss p         p is in each of these lists of cells
-- IsShutAt k dss c ds    no point of c that is in the cell k of ds is in each of dss
-- AreShutAt bs dss c ds  that is so of each k at which bs is set
-- left_of_part c dss d   what dss leave of what the cells c and d have in common
use Rattle.std.specs.Prelude.{◌≡◌, ℕ, Bool, true, false, not, ◌==◌, ◌&&◌, List, ◌∷◌, [], Option, None, Some, slice_get, get_or, map, filter}
use Rattle.plane_terms.specs.Lists.{Every}
use Rattle.plane_terms.specs.Point.{Point}
use Rattle.plane_terms.specs.Cell.{Cell, InCell, InCells}
use Rattle.topology_terms.specs.Feature.{Feature, Side, is_on_side}
use Rattle.plane_terms.specs.Carve.{carve_of}
use Rattle.topology_terms.specs.Cells.{outside, uncovered}

abbrev pub but_for : Option ℕ → Feature → Bool
but_for None g = true
but_for (Some h) g = not (g.handle == h)

abbrev pub chosen : Side → Option ℕ → Feature → Bool
chosen A e g = is_on_side A g && but_for e g

abbrev pub outsides : Side → Option ℕ → List Feature → List (List Cell)
outsides A e F = map {A = Feature} outside (filter (chosen A e) F)

abbrev pub IsInEach : List (List Cell) → Point → Type 0
IsInEach dss p = Every (λ ds. InCells ds p) dss

abbrev pub IsShutAt : ℕ → List (List Cell) → Cell → List Cell → Type 0
IsShutAt k dss c ds = (d : Cell) → slice_get ds k ≡ Some d → (p : Point) → InCell c p → InCell d p → ¬ (IsInEach dss p)

abbrev pub AreShutAt : List Bool → List (List Cell) → Cell → List Cell → Type 0
AreShutAt bs dss c ds = (k : ℕ) → get_or bs k false ≡ true → IsShutAt k dss c ds

abbrev pub left_of_part : Cell → List (List Cell) → Cell → List Cell
left_of_part c dss d = uncovered (carve_of (c ∷ []) (d ∷ [])) dss

-- Cells that stand one after the other in one list of half-planes.
--
-- cells_at hs from es   the cells whose half-planes stand in hs: the first begins at the place `from`, each other where the one before
--                       it ends; es are the ends
-- AreEnds from es n     the ends ascend from `from`, and the last is n
use Rattle.std.specs.Prelude.{◌≡◌, ◌≤◌, ℕ, List, [], ◌∷◌, slice_range}
use Rattle.plane_terms.specs.HalfPlane.{HalfPlane}
use Rattle.plane_terms.specs.Cell.{Cell}

abbrev pub cells_at : List HalfPlane → ℕ → List ℕ → List Cell
cells_at hs from [] = []
cells_at hs from (e ∷ es) = slice_range hs from e ∷ cells_at hs e es

abbrev pub AreEnds : ℕ → List ℕ → ℕ → Type 0
AreEnds from [] n = from ≡ n
AreEnds from (e ∷ es) n = (from ≤ e) × AreEnds e es n

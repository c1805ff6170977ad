-- The first ring that is not closed, computed.
--
-- first_open n rings     its number, where they are numbered from n on
use Rattle.std.specs.Prelude.{ℕ, ◌+◌, List, [], ◌∷◌, Option, Some, None, if◌then◌else◌}
use Rattle.plane_terms.specs.Point.{Place}
use Rattle.wkt_terms.specs.Shapes.{is_closed}

abbrev pub first_open : ℕ → List (List Place) → Option ℕ
first_open n [] = None
first_open n (ring ∷ rings) = if is_closed ring then first_open (n + 1) rings else Some n

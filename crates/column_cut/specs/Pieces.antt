-- What lies between two neighbours of a column, and between two vertices of a wall.
--
-- all_of h           the half-plane, where there is one
-- slot_cell s        the cell of a slot: over the segment below it, under the one above it
-- stretch_cell s     the cell of a stretch of a wall: above its lower end, below its upper one
use Rattle.std.specs.Prelude.{ℤ, [], ◌∷◌, ◌++◌, Option, Some, None}
use Rattle.plane_terms.specs.HalfPlane.{HalfPlane, y_over, y_under}
use Rattle.plane_terms.specs.Cell.{Cell}
use Rattle.column_cut.specs.declared.slots.Slot.{Slot}
use Rattle.column_cut.specs.declared.intervals.Stretch.{Stretch}

abbrev pub all_of : Option HalfPlane → Cell
all_of None = []
all_of (Some h) = h ∷ []

abbrev pub slot_cell : Slot → Cell
slot_cell s = all_of s.over ++ all_of s.under

abbrev pub above : Option ℤ → Cell
above None = []
above (Some a) = y_over a ∷ []

abbrev pub below : Option ℤ → Cell
below None = []
below (Some b) = y_under b ∷ []

abbrev pub stretch_cell : Stretch → Cell
stretch_cell s = above s.low ++ below s.high

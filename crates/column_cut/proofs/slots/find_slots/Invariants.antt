use Rattle.column_cut.specs.Ranks.{segment_of}
use Rattle.std.proofs.Common.{◌≡◌, ◌++◌, drop, map, None}
use Rattle.plane_terms.specs.Columns.{slots}
use Rattle.column_cut.specs.Pieces.{slot_cell}
use Rattle.column_cut.proofs.slots.find_slots.Given as goal

abbrev pub invariant-loop-ranked : goal.invariant-loop-ranked
invariant-loop-ranked l = map slot_cell l.found.items ++ slots l.take l.below (map segment_of (drop l.ranked-index l.column))
    ≡ slots l.initial.take None (map segment_of l.column)

use Rattle.std.proofs.Common.{◌≡◌, ◌++◌, ◌∷◌, drop, None, Some}
use Rattle.plane_terms.specs.Columns.{is_covered}
use Rattle.column_cut.specs.Stretches.{stretches_of}
use Rattle.column_cut.proofs.intervals.find_from.Given as goal

abbrev pub invariant-loop-high : goal.invariant-loop-high
invariant-loop-high l = l.stretches.items ++ stretches_of (is_covered l.x l.segments) (Some l.low) (drop l.high-index l.rest)
    ≡ stretches_of (is_covered l.x l.segments) None (l.first ∷ l.rest)

use Rattle.std.proofs.Common.{◌≡◌, drop}
use Rattle.plane_terms.specs.Columns.{is_covered}
use Rattle.column_cut.proofs.intervals.is_covered.Given as goal

abbrev pub invariant-loop-segment : goal.invariant-loop-segment
invariant-loop-segment l = is_covered l.x (drop l.segment-index l.segments) l.low l.high ≡ is_covered l.x l.segments l.low l.high

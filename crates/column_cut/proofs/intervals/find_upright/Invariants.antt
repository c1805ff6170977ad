use Rattle.std.proofs.Common.{◌≡◌, ◌++◌, drop}
use Rattle.std.specs.List.{filter}
use Rattle.column_cut.specs.Covering.{is_upright}
use Rattle.column_cut.proofs.intervals.find_upright.Given as goal

abbrev pub invariant-loop-segment : goal.invariant-loop-segment
invariant-loop-segment l = l.upright.items ++ filter (is_upright l.x) (drop l.segment-index l.segments)
    ≡ filter (is_upright l.x) l.segments

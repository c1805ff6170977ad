use Rattle.std.proofs.Common.{◌≡◌, ◌++◌, drop}
use Rattle.std.specs.List.{filter}
use Rattle.column_cut.specs.Strips.{reaches}
use Rattle.column_cut.proofs.near.near_of.Given as goal

abbrev pub invariant-loop-segment : goal.invariant-loop-segment
invariant-loop-segment l = l.near.items ++ filter (reaches l.left l.right) (drop l.segment-index l.segments)
    ≡ filter (reaches l.left l.right) l.segments

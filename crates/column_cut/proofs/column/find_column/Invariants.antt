use Rattle.std.proofs.Common.{take}
use Rattle.std.specs.List.{AllZip, filter}
use Rattle.column_cut.specs.Ranks.{IsRankOf, passes}
use Rattle.column_cut.proofs.column.find_column.Given as goal

abbrev pub invariant-loop-segment : goal.invariant-loop-segment
invariant-loop-segment l = AllZip (IsRankOf l.left l.right)
    (filter (passes l.left l.right) (take l.segment-index l.segments)) l.found.items

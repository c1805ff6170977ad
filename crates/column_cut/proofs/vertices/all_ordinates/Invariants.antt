use Rattle.std.proofs.Common.{◌≡◌, ◌++◌, drop}
use Rattle.plane_terms.specs.Lists.{Every}
use Rattle.plane_terms.specs.Point.{InReach}
use Rattle.column_cut.specs.Vertices.{ascending, ys_at}
use Rattle.column_cut.proofs.vertices.all_ordinates.Given as goal

abbrev pub invariant-loop-segment : goal.invariant-loop-segment
invariant-loop-segment l = record {
  value : ascending (l.values.items ++ ys_at l.x (drop l.segment-index l.segments))
      ≡ ascending (ys_at l.x l.segments);
  reach : Every InReach l.values.items;
}

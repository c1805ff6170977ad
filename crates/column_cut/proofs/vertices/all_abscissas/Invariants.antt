use Rattle.std.proofs.Common.{◌≡◌, ◌++◌, drop}
use Rattle.plane_terms.specs.Lists.{Every}
use Rattle.plane_terms.specs.Point.{InReach}
use Rattle.column_cut.specs.Vertices.{ascending, xs_of}
use Rattle.column_cut.proofs.vertices.all_abscissas.Given as goal

abbrev pub invariant-loop-segment : goal.invariant-loop-segment
invariant-loop-segment l = record {
  value : ascending (l.values.items ++ xs_of (drop l.segment-index l.segments))
      ≡ ascending (xs_of l.segments);
  reach : Every InReach l.values.items;
}

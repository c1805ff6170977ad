use Rattle.std.proofs.Common.{ℕ, ◌<◌}
use Rattle.plane_terms.specs.ShapeFaults.{AreBad, IsPair}
use Rattle.plain_shapes.proofs.search.first_with.Given as goal

abbrev pub invariant-loop-j : goal.invariant-loop-j
invariant-loop-j l = (b : ℕ) → b < l.j → ¬ (IsPair AreBad l.segs l.i b)

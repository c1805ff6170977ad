use Rattle.std.proofs.Common.{ℕ, ◌<◌}
use Rattle.plane_terms.specs.ShapeFaults.{AreBad, IsPair}
use Rattle.plain_shapes.proofs.search.first_bad_pair.Given as goal

abbrev pub invariant-loop-i : goal.invariant-loop-i
invariant-loop-i l = (a b : ℕ) → a < l.i → ¬ (IsPair AreBad l.segs a b)

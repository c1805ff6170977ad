use Rattle.std.proofs.Common.{ℕ, ◌<◌, ◌≤◌, ◌-◌, slice_index_or}
use Rattle.convex_cell.specs.declared.bounds.Bounds.{Bounds}
use Rattle.convex_cell.specs.Span.{AreApart}
use Rattle.convex_cell.proofs.stack.next_near.Given as goal

abbrev pub decreases-loop-i : goal.decreases-loop-i
decreases-loop-i l = l.last - l.i

abbrev pub invariant-loop-i : goal.invariant-loop-i
invariant-loop-i l = record {
  from : l.from ≤ l.i;
  apart : (k : ℕ) → (d : Bounds) → l.from ≤ k → k < l.i → AreApart l.own (slice_index_or l.bounds k d);
}

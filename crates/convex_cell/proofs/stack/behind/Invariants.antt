use Rattle.std.proofs.Common.{ℕ, ◌<◌, ◌≤◌, ◌-◌, slice_index_or}
use Rattle.convex_cell.specs.declared.bounds.Bounds.{Bounds}
use Rattle.convex_cell.specs.Span.{AreApart}
use Rattle.convex_cell.proofs.stack.behind.Given as goal

abbrev pub decreases-loop-low : goal.decreases-loop-low
decreases-loop-low l = l.high - l.low

abbrev pub invariant-loop-low : goal.invariant-loop-low
invariant-loop-low l = record {
  from : l.i ≤ l.low;
  within : l.low < l.high;
  fits : l.high ≤ l.last;
  apart : (k : ℕ) → (d : Bounds) → l.i ≤ k → k ≤ l.low → AreApart l.own (slice_index_or l.bounds k d);
}

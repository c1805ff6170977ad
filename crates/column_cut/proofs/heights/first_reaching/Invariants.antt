use Rattle.std.proofs.Common.{ℕ, ◌<◌, ◌≤◌, ◌-◌, length, slice_index_or}
use Rattle.column_cut.specs.declared.intervals.Stretch.{Stretch}
use Rattle.column_cut.specs.Stretches.{IsApart}
use Rattle.column_cut.proofs.heights.first_reaching.Given as goal

abbrev pub decreases-loop-low : goal.decreases-loop-low
decreases-loop-low l = l.high - l.low

abbrev pub invariant-loop-low : goal.invariant-loop-low
invariant-loop-low l = record {
  within : l.low ≤ l.high;
  fits : l.high ≤ length l.stretches;
  before : (k : ℕ) → (d : Stretch) → k < l.low → IsApart l.x l.slot (slice_index_or l.stretches k d);
}

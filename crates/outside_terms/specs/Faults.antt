-- Faults of the outside, as a source, a sink and a shelf count them.
--
-- Rose before now      the count of faults rose, or stands at the greatest u64
use Rattle.std.specs.Prelude.{ℕ, ◌+◌, ◌-◌, ◌≤◌, ◌^◌, min}

abbrev pub Rose : ℕ → ℕ → Type 0
Rose before now = min (before + 1) (2 ^ 64 - 1) ≤ now

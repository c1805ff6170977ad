use Rattle.std.proofs.Common.{◌≡◌, ◌<◌, ◌↔◌, ℕ, true, false, get_or, length}
use Rattle.grid_index.proofs.marks.marks_at.Given as goal

abbrev pub invariant-loop-h : goal.invariant-loop-h
invariant-loop-h l = record {
  count : length l.marks.items ≡ l.count;
  marked : (a : ℕ) → get_or l.marks.items a false ≡ true ↔ ((k : ℕ) × (k < l.h-index) × (get_or l.found k a ≡ a));
}

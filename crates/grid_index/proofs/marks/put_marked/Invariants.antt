use Rattle.std.proofs.Common.{◌≡◌, ◌<◌, ◌↔◌, ℕ, true, false, get_or, All, Contains}
use Rattle.std.specs.List.Sorted.{IsStrictlyIncreasing}
use Rattle.grid_index.proofs.marks.put_marked.Given as goal

abbrev pub invariant-loop-i : goal.invariant-loop-i
invariant-loop-i l = record {
  rising : IsStrictlyIncreasing l.found.items;
  below : All (λ h. h < l.i) l.found.items;
  same : (a : ℕ) → Contains l.found.items a ↔ ((a < l.i) × (get_or l.marks a false ≡ true));
}

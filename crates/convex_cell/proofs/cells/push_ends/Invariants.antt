use Rattle.std.proofs.Common.{◌≡◌, ◌++◌, ◌+◌, ℕ, map, take}
use Rattle.convex_cell.proofs.cells.push_ends.Given as goal

abbrev pub invariant-loop-end : goal.invariant-loop-end
invariant-loop-end l = l.ends.items ≡ l.initial.ends.items ++ map {A = ℕ} (λ e. l.by + e) (take l.end-index l.more)

use Rattle.std.proofs.Common.{◌≡◌, take}
use Rattle.convex_cell.proofs.indexed.IndexedCell.of.Given as goal

abbrev pub invariant-loop-half : goal.invariant-loop-half
invariant-loop-half l = l.indexed ≡ take l.half-index l.half-items

use Rattle.std.proofs.Common.{◌≡◌, take}
use Rattle.plane_terms.specs.Carve.{carve_of}
use Rattle.convex_cell.proofs.bounded.carved_by.Given as goal

abbrev pub invariant-loop-i : goal.invariant-loop-i
invariant-loop-i l = l.made ≡ carve_of (take l.i l.cells) l.by

use Rattle.std.proofs.Common.{◌≡◌, drop, take, length}
use Rattle.plane_terms.specs.Cell.{meet_of}
use Rattle.convex_cell.proofs.cell.push_new.Given as goal

abbrev pub invariant-loop-half : goal.invariant-loop-half
invariant-loop-half l = record {
  met : meet_of (drop l.from l.halves.items) (drop l.half-index l.more) ≡ meet_of (drop l.from l.initial.halves.items) l.more;
  begins : take (length l.initial.halves.items) l.halves.items ≡ l.initial.halves.items;
}

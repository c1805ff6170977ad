use Rattle.std.proofs.Common.{◌≡◌, drop, take, length}
use Rattle.plane_terms.specs.Cell.{meet_of}
use Rattle.convex_cell.proofs.indexed.IndexedCell.push_new.Given as goal

abbrev pub invariant-loop-half : goal.invariant-loop-half
invariant-loop-half l = record {
  met : meet_of l.self (drop l.half-index l.more) ≡ meet_of l.initial.self l.more;
  begins : take (length l.initial.self) l.self ≡ l.initial.self;
}

use Rattle.std.proofs.Common.{◌≡◌, ◌≤◌, take}
use Rattle.plane_terms.specs.Lists.{how_many}
use Rattle.plane_terms.specs.Point.{same_place}
use Rattle.plane_terms.specs.Shape.{ends_of}
use Rattle.rule_loops.proofs.places.count_ends.Given as goal

abbrev pub invariant-loop-i : goal.invariant-loop-i
invariant-loop-i l = record {
  counted : l.count ≡ how_many (same_place l.place) (take l.i (ends_of l.line));
  few : l.count ≤ l.i;
}

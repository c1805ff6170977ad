use Rattle.std.proofs.Common.{◌≡◌, take, map}
use Rattle.std.specs.List.{filter}
use Rattle.plane_terms.specs.Point.{Place}
use Rattle.plane_terms.specs.Cell.{at_place}
use Rattle.topology_terms.specs.Together.{of_side}
use Rattle.rule_loops.proofs.bad.bad_among.Given as goal

abbrev pub invariant-loop-place : goal.invariant-loop-place
invariant-loop-place g l = l.cells ≡ map {A = Place} at_place (filter (g.B.Bad.bad (of_side l.side l.view)) (take l.place-index l.places))

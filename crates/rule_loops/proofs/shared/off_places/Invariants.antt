use Rattle.std.proofs.Common.{◌≡◌, drop, map}
use Rattle.std.specs.List.{filter}
use Rattle.plane_terms.specs.Point.{Place}
use Rattle.plane_terms.specs.Cell.{out_of_place}
use Rattle.topology_terms.specs.Cells as terms
use Rattle.rule_loops.proofs.shared.off_places.Given as goal

abbrev pub invariant-loop-place : goal.invariant-loop-place
invariant-loop-place l =
    terms.uncovered l.left (map {A = Place} out_of_place (filter (terms.on_both l.first l.second) (drop l.place-index l.places)))
    ≡ terms.off_places l.places l.first l.second

use Rattle.std.proofs.Common.{◌≡◌, take}
use Rattle.plane_terms.specs.Lists.{how_many, is_odd}
use Rattle.plane_terms.specs.Polygon.{counts}
use Rattle.plane_terms.specs.Point.{point_at}
use Rattle.rule_loops.proofs.places.are_odd_in.Given as goal

abbrev pub invariant-loop-segment : goal.invariant-loop-segment
invariant-loop-segment l = l.odd ≡ is_odd (how_many (λ s. counts s (point_at l.place)) (take l.segment-index l.segments))

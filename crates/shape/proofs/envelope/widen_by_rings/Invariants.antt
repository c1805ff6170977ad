use Rattle.std.proofs.Common.{◌≡◌, drop}
use Rattle.plane_terms.specs.Lists.{Every}
use Rattle.plane_terms.specs.Point.{IsInReach}
use Rattle.plane_terms.specs.Shape.{box_from}
use Rattle.shape.specs.Given.{rings_in, all_vertices}
use Rattle.shape.proofs.envelope.widen_by_rings.Given as goal

abbrev pub invariant-loop-ring : goal.invariant-loop-ring
invariant-loop-ring l =
    (box_from l.wide (all_vertices (rings_in (drop l.ring-index l.rings))) ≡ box_from l.initial.wide (all_vertices (rings_in l.rings)))
    × (Every IsInReach (all_vertices (rings_in (drop l.ring-index l.rings))) → Every IsInReach (all_vertices (rings_in l.rings)))

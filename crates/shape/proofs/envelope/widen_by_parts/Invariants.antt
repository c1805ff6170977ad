use Rattle.std.proofs.Common.{◌≡◌, drop}
use Rattle.plane_terms.specs.Lists.{Every}
use Rattle.plane_terms.specs.Point.{IsInReach}
use Rattle.plane_terms.specs.Shape.{box_from}
use Rattle.shape.specs.Given.{polygons_in, all_rings, all_vertices}
use Rattle.shape.proofs.envelope.widen_by_parts.Given as goal

abbrev pub invariant-loop-part : goal.invariant-loop-part
invariant-loop-part l =
    (box_from l.wide (all_vertices (all_rings (polygons_in (drop l.part-index l.parts)))) ≡ box_from l.initial.wide
    (all_vertices (all_rings (polygons_in l.parts))))
    × (Every IsInReach (all_vertices (all_rings (polygons_in (drop l.part-index l.parts))))
    → Every IsInReach (all_vertices (all_rings (polygons_in l.parts))))

use Rattle.std.proofs.Common.{◌≡◌, ◌++◌, flat_map, drop}
use Rattle.plane_terms.specs.Lists.{Every}
use Rattle.plane_terms.specs.Shape.{closed_path}
use Rattle.shape.specs.Given.{polygons_in, all_rings}
use Rattle.shape.specs.Kept.{IsClosing}
use Rattle.shape.proofs.segments.push_polygons.Given as goal

abbrev pub invariant-loop-part : goal.invariant-loop-part
invariant-loop-part l =
    Every (Every IsClosing) (polygons_in (drop l.part-index l.parts))
    × (l.segs.items ++ flat_map closed_path (all_rings (polygons_in (drop l.part-index l.parts))) ≡ l.initial.segs.items ++ flat_map
    closed_path (all_rings (polygons_in l.parts)))

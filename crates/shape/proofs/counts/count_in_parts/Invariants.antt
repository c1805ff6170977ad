use Rattle.std.proofs.Common.{◌≡◌, ◌+◌, length, drop}
use Rattle.shape.specs.Given.{polygons_in, all_rings, all_vertices}
use Rattle.shape.proofs.counts.count_in_parts.Given as goal

abbrev pub invariant-loop-part : goal.invariant-loop-part
invariant-loop-part l =
    l.count + length (all_vertices (all_rings (polygons_in (drop l.part-index l.parts)))) ≡ length
    (all_vertices (all_rings (polygons_in l.parts)))

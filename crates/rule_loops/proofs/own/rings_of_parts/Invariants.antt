use Rattle.std.proofs.Common.{◌≡◌, ◌++◌, drop}
use Rattle.shape.specs.Given.{rings_in, polygons_in, all_rings}
use Rattle.rule_loops.proofs.own.rings_of_parts.Given as goal

abbrev pub invariant-loop-part : goal.invariant-loop-part
invariant-loop-part l =
    rings_in l.rings.items ++ all_rings (polygons_in (drop l.part-index l.parts)) ≡ all_rings (polygons_in l.parts)

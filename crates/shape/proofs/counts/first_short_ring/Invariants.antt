use Rattle.std.proofs.Common.{◌≡◌, ◌+◌, length, drop}
use Rattle.shape.specs.Given.{polygons_in, all_rings}
use Rattle.shape.specs.Counts.{first_short}
use Rattle.shape.proofs.counts.first_short_ring.Given as goal

abbrev pub invariant-loop-part : goal.invariant-loop-part
invariant-loop-part l = (l.from + length (all_rings (polygons_in (drop l.part-index l.parts))) ≡ length (all_rings (polygons_in l.parts)))
    × (first_short 3 l.from (all_rings (polygons_in (drop l.part-index l.parts))) ≡ first_short 3 0 (all_rings (polygons_in l.parts)))

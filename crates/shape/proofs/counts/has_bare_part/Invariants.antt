use Rattle.std.proofs.Common.{◌≡◌, drop}
use Rattle.shape.specs.Given.{polygons_in}
use Rattle.shape.specs.Counts.{has_bare_part}
use Rattle.shape.proofs.counts.has_bare_part.Given as goal

abbrev pub invariant-loop-part : goal.invariant-loop-part
invariant-loop-part l = has_bare_part (polygons_in (drop l.part-index l.parts)) ≡ has_bare_part (polygons_in l.parts)

use Rattle.std.proofs.Common.{◌≡◌, ◌++◌, flat_map, drop}
use Rattle.plane_terms.specs.Lists.{Every}
use Rattle.plane_terms.specs.Shape.{path, NextDiffer}
use Rattle.shape.specs.Given.{rings_in}
use Rattle.shape.proofs.segments.push_paths.Given as goal

abbrev pub invariant-loop-part : goal.invariant-loop-part
invariant-loop-part l =
    Every NextDiffer (rings_in (drop l.part-index l.parts))
    × (l.segs.items ++ flat_map path (rings_in (drop l.part-index l.parts)) ≡ l.initial.segs.items ++ flat_map path (rings_in l.parts))

use Rattle.std.proofs.Common.{◌≡◌, ◌++◌, flat_map, drop}
use Rattle.plane_terms.specs.Lists.{Every}
use Rattle.plane_terms.specs.Shape.{closed_path}
use Rattle.shape.specs.Given.{rings_in}
use Rattle.shape.specs.Kept.{IsClosing}
use Rattle.shape.proofs.segments.push_rings.Given as goal

abbrev pub invariant-loop-ring : goal.invariant-loop-ring
invariant-loop-ring l =
    Every IsClosing (rings_in (drop l.ring-index l.rings))
    × (l.segs.items ++ flat_map closed_path (rings_in (drop l.ring-index l.rings)) ≡ l.initial.segs.items ++ flat_map closed_path
    (rings_in l.rings))

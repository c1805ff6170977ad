use Rattle.std.proofs.Common.{◌∙◌}
use Rattle.registry_rules.proofs.Holes.{hole_by}
use Rattle.registry_rules.proofs.no_hole.has_hole.Goals as goal

pub returns : goal.returns
returns c = c.has_second_ring.ensures ∙ hole_by _ _ _ (rw c.shape.ensures at c.polygons.ensures.parts)
    (rw c.shape.ensures at c.polygons.ensures.none)

use Rattle.std.proofs.Common.{◌∙◌, ap}
use Rattle.plane_terms.specs.Rectangle.{Rectangle}
use Rattle.plane_terms.specs.Shape.{box_from}
use Rattle.shape.specs.Given.{polygons_in, all_rings, all_vertices}
use Rattle.shape.proofs.Held.{polygon_box}
use Rattle.shape.proofs.envelope.box_of_polygon.Goals as goal

pub returns-clause-value : goal.returns-clause-value
returns-clause-value c =
    polygon_box c.args.parts.now c.index-parts-0.result c.index.result.now c.index-2.result.now c.widen_by_parts.result c.requires
    c.index-parts-0.is c.index.ensures c.index-2.ensures (c.widen_by_parts.ensures.value
    ∙ ap (λ (r : Rectangle). box_from r (all_vertices (all_rings (polygons_in c.args.parts.now)))) c.round.ensures.value)

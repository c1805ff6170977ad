use Rattle.text_out.proofs.Pushing.{as_text}
use Rattle.wkt_text.proofs.Items.{one_polygon, more_polygons}
use Rattle.wkt_text.proofs.rings.push_polygon.Goals as goal

pub returns-then-parts-eq1 : goal.returns-then-parts-eq1
returns-then-parts-eq1 c =
    as_text c.push_one_polygon.result _ _ _ _
    (one_polygon c.args.parts.now c.index-parts-0.result c.deref.result.now c.if-parts-eq1.true c.index-parts-0.is c.deref.ensures.value)
    c.push_one_polygon.ensures

pub returns-else-parts-eq1 : goal.returns-else-parts-eq1
returns-else-parts-eq1 c =
    as_text c.push_more_polygons.result _ _ _ _ (more_polygons c.args.parts.now c.if-parts-eq1.false) c.push_more_polygons.ensures

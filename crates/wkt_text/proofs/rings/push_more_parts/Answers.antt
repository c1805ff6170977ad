use Rattle.std.proofs.Common.{ap}
use Rattle.shape.specs.Given.{rings_in as lists_of}
use Rattle.wkt_text.specs.Closed.{rings_text}
use Rattle.wkt_text.proofs.Items.{commas_by, item_more}
use Rattle.wkt_text.proofs.rings.push_more_parts.Goals as goal

pub loop-part-preserved : goal.loop-part-preserved
loop-part-preserved c =
    item_more _ _ _ _ _ _ _
    (commas_by rings_text (λ part. lists_of part.items) c.args.parts.now c.loop-part.part-index c.part-item.result _ c.loop-part-test.true c.part-item.is (ap (λ r. lists_of r) c.deref.ensures.value))
    c.loop-part.invariant c.in_ok-push_comma.ensures c.in_ok-push_rings.ensures

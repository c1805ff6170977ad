use Rattle.wkt_text.specs.Closed.{ring_text}
use Rattle.wkt_text.proofs.Items.{commas_by, item_more}
use Rattle.wkt_text.proofs.rings.push_more_rings.Goals as goal

pub loop-ring-preserved : goal.loop-ring-preserved
loop-ring-preserved c =
    item_more _ _ _ _ _ _ _
    (commas_by ring_text (λ list. list.items) c.args.rings.now c.loop-ring.ring-index c.ring-item.result _ c.loop-ring-test.true c.ring-item.is c.deref.ensures.value)
    c.loop-ring.invariant c.in_ok-push_comma.ensures c.in_ok-push_ring.ensures

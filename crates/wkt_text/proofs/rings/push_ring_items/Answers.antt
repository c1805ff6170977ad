use Rattle.wkt_text.specs.Closed.{ring_text}
use Rattle.text_out.proofs.Pushing.{in_two}
use Rattle.wkt_text.proofs.Items.{listed_by}
use Rattle.wkt_text.proofs.rings.push_ring_items.Goals as goal

pub returns-in_ok-push_ring-in-len1-up : goal.returns-in_ok-push_ring-in-len1-up
returns-in_ok-push_ring-in-len1-up c =
    in_two c.push_more_rings.result _ _ _ _ _ _ c.in_ok-push_ring-in-len1-up.ensures c.push_more_rings.ensures
    (listed_by ring_text (λ list. list.items) c.args.rings.now c.first-item.result _ c.in-len1-up.len_at_least c.first-item.is c.deref.ensures.value)

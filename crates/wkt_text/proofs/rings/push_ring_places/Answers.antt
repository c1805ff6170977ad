use Rattle.text_out.proofs.Pushing.{in_three, as_text}
use Rattle.wkt_text.proofs.Items.{closed_at}
use Rattle.wkt_text.proofs.rings.push_ring_places.Goals as goal

pub returns-in_ok-push_more_places-in-len1-up : goal.returns-in_ok-push_more_places-in-len1-up
returns-in_ok-push_more_places-in-len1-up c =
    as_text c.push_closing.result _ _ _ _ (closed_at c.args.ring.now c.first-item.result c.in-len1-up.len_at_least c.first-item.is)
    (in_three _ _ _ _ _ _ _ _ c.in_ok-push_place-in-len1-up.ensures c.in_ok-push_more_places-in-len1-up.ensures
    c.push_closing.ensures)

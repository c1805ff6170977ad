use Rattle.wkt_terms.specs.Written.{place_text}
use Rattle.wkt_text.proofs.Items.{commas_at, item_more}
use Rattle.wkt_text.proofs.lists.push_more_places.Goals as goal

pub loop-place-preserved : goal.loop-place-preserved
loop-place-preserved c =
    item_more _ _ _ _ _ _ _
    (commas_at place_text c.args.places.now c.loop-place.place-index c.place-item.result c.loop-place-test.true c.place-item.is)
    c.loop-place.invariant c.in_ok-push_comma.ensures c.in_ok-push_place.ensures

use Rattle.wkt_terms.specs.Written.{place_text}
use Rattle.text_out.proofs.Pushing.{in_two}
use Rattle.wkt_text.proofs.Items.{listed_at}
use Rattle.wkt_text.proofs.lists.push_places.Goals as goal

pub returns-in_ok-push_place-in-len1-up : goal.returns-in_ok-push_place-in-len1-up
returns-in_ok-push_place-in-len1-up c =
    in_two c.push_more_places.result _ _ _ _ _ _ c.in_ok-push_place-in-len1-up.ensures c.push_more_places.ensures
    (listed_at place_text c.args.places.now c.first-item.result c.in-len1-up.len_at_least c.first-item.is)

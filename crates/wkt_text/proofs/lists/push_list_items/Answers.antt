use Rattle.wkt_terms.specs.Written.{list_text}
use Rattle.text_out.proofs.Pushing.{in_two}
use Rattle.wkt_text.proofs.Items.{listed_by}
use Rattle.wkt_text.proofs.lists.push_list_items.Goals as goal

pub returns-in_ok-push_list-in-len1-up : goal.returns-in_ok-push_list-in-len1-up
returns-in_ok-push_list-in-len1-up c =
    in_two c.push_more_lists.result _ _ _ _ _ _ c.in_ok-push_list-in-len1-up.ensures c.push_more_lists.ensures
    (listed_by list_text (λ list. list.items) c.args.lists.now c.first-item.result _ c.in-len1-up.len_at_least c.first-item.is c.deref.ensures.value)

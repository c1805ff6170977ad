use Rattle.wkt_terms.specs.Written.{list_text}
use Rattle.wkt_text.proofs.Items.{commas_by, item_more}
use Rattle.wkt_text.proofs.lists.push_more_lists.Goals as goal

pub loop-list-preserved : goal.loop-list-preserved
loop-list-preserved c =
    item_more _ _ _ _ _ _ _
    (commas_by list_text (λ list. list.items) c.args.lists.now c.loop-list.list-index c.list-item.result _ c.loop-list-test.true c.list-item.is c.deref.ensures.value)
    c.loop-list.invariant c.in_ok-push_comma.ensures c.in_ok-push_list.ensures

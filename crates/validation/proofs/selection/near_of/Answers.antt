use Rattle.validation.proofs.Picking.{near_once}
use Rattle.validation.proofs.selection.near_of.Goals as goal

pub returns-clause-near : goal.returns-clause-near
returns-clause-near g c = near_once c.args.index.now c.args.dirty.now c.in_ok-near.near.items c.once_each.new.found.items
    c.in_ok-near.ensures.near c.in_ok-once_each.ensures.same

use Rattle.grid_index.proofs.Nodes.{on_err}
use Rattle.topo_core.proofs.Whole.{none_given}
use Rattle.topo_core.proofs.Standing.{still_placed, next_back}
use Rattle.topo_core.proofs.Live.{still_live, next_back_live}
use Rattle.topo_core.proofs.growth.dirty_next.Goals as goal

pub returns-in_err-put-clause-placed : goal.returns-in_err-put-clause-placed
returns-in_err-put-clause-placed c = on_err c.from_residual.result _ (still_placed c.args.index.now c.put.new.self
    c.args.store.now.features c.in_err-put.ensures.err)

pub returns-in_err-put-clause-live : goal.returns-in_err-put-clause-live
returns-in_err-put-clause-live c = on_err c.from_residual.result _ (still_live c.args.index.now c.put.new.self
    c.args.store.now.features c.in_err-put.ensures.err)

pub returns-in-Ok-clause-put : goal.returns-in-Ok-clause-put
returns-in-Ok-clause-put c = rw c.next_handle.ensures.next at c.in_ok-put.ensures.ok

pub returns-in-Err-clause-placed : goal.returns-in-Err-clause-placed
returns-in-Err-clause-placed c =
    let next = c.args.store.now.next in
    let F = c.args.store.now.features in
    next_back c.args.env next F c.args.index.now c.put.new.self c.take.new.self (none_given next F c.store_law.ensures.given)
    (rw c.next_handle.ensures.next at c.in_ok-put.ensures.ok) (rw c.next_handle.ensures.next at c.take.ensures)

pub returns-in-Err-clause-live : goal.returns-in-Err-clause-live
returns-in-Err-clause-live c =
    let next = c.args.store.now.next in
    let F = c.args.store.now.features in
    next_back_live c.args.env next F c.args.index.now c.put.new.self c.take.new.self
    (rw c.next_handle.ensures.next at c.in_ok-put.ensures.ok) (rw c.next_handle.ensures.next at c.take.ensures)

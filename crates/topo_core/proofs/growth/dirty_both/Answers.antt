use Rattle.grid_index.proofs.Nodes.{on_err}
use Rattle.topo_core.proofs.Exchanges.{envelopes_added}
use Rattle.topo_core.proofs.Standing.{still_placed, placed_back, stands_placed}
use Rattle.topo_core.proofs.Live.{still_live, back_live}
use Rattle.topo_core.proofs.growth.dirty_both.Goals as goal

pub put_place-requires : goal.put_place-requires
put_place-requires c = stands_placed c.args.handle c.args.store.now.features c.args.index.now c.live_place-stands.result c.live_place-stands.ensures
    c.requires.placed

pub returns-in_err-put_place-clause-placed : goal.returns-in_err-put_place-clause-placed
returns-in_err-put_place-clause-placed c = on_err c.from_residual.result _ (still_placed c.args.index.now c.put_place.new.index
    c.args.store.now.features c.in_err-put_place.ensures.err)

pub returns-in_err-put_place-clause-live : goal.returns-in_err-put_place-clause-live
returns-in_err-put_place-clause-live c = on_err c.from_residual.result _ (still_live c.args.index.now c.put_place.new.index
    c.args.store.now.features c.in_err-put_place.ensures.err)

pub returns-in-Ok-clause-ok : goal.returns-in-Ok-clause-ok
returns-in-Ok-clause-ok c = rw (envelopes_added _ _ _ _ _ c.live_env.ensures c.kept_env.ensures) at c.in-Ok.ensures.ok

pub returns-in-Ok-clause-put : goal.returns-in-Ok-clause-put
returns-in-Ok-clause-put c = rw c.kept_place-comes.ensures at c.in_ok-put_place.ensures.ok

pub returns-in-Err-clause-placed : goal.returns-in-Err-clause-placed
returns-in-Err-clause-placed c = placed_back c.args.handle c.args.kept.now c.args.store.now.features c.args.index.now
    c.put_place.new.index c.take_place.new.index c.requires.own (rw c.kept_place-comes.ensures at c.in_ok-put_place.ensures.ok)
    (rw (c.kept_place-comes.ensures, c.live_place-stands.ensures) at c.take_place.ensures)

pub returns-in-Err-clause-live : goal.returns-in-Err-clause-live
returns-in-Err-clause-live c = back_live c.args.handle c.args.kept.now c.args.store.now.features c.args.index.now
    c.put_place.new.index c.take_place.new.index (rw c.kept_place-comes.ensures at c.in_ok-put_place.ensures.ok)
    (rw (c.kept_place-comes.ensures, c.live_place-stands.ensures) at c.take_place.ensures)

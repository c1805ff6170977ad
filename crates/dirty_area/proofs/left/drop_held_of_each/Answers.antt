use Rattle.std.proofs.Common.{arith}
use Rattle.dirty_area.specs.declared.left.Change.{Change}
use Rattle.dirty_area.proofs.Changes.{next_change}
use Rattle.dirty_area.proofs.left.drop_held_of_each.Goals as goal

pub loop-i-preserved : goal.loop-i-preserved
loop-i-preserved c =
    let cs = c.args.changes.now.items in
    let h = c.loop-i.invariant in
    let d : Change = record { place = c.index_mut.result.now.place; block = c.drop_held.new.self } in
    next_change c.args.r.now cs c.loop-i.changes.items _ c.loop-i.i c.index_mut.result.now d (omega (arith, c.loop-i-test.true, h.2)) h.2 h.0 h.1
    c.index_mut.ensures.value (cc) c.drop_held.ensures.held (cc)

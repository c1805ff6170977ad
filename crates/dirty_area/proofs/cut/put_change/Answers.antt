use Rattle.std.proofs.Common.{◌≡◌, get_or, [], length, sym, ◌∙◌, arith}
use Rattle.dirty_area.specs.Blocks.{runs, all_rects}
use Rattle.dirty_area.proofs.Joins.{run_at, length_runs}
use Rattle.dirty_area.proofs.Numbers.{some_of_all, block_changed}
use Rattle.dirty_area.proofs.Rooms.{runs_set, set_indexed}
use Rattle.dirty_area.proofs.cut.put_change.Goals as goal

pub returns-clause-put : goal.returns-clause-put
returns-clause-put c = runs_set c.args.blocks.now.items c.args.change.place c.args.change.block

pub returns-clause-indexed : goal.returns-clause-indexed
returns-clause-indexed c =
    let bs = c.args.blocks.now.items in
    let i = c.args.change.place in
    let before : get_or (runs bs) i [] ≡ c.rects.result.now = run_at bs i c.index.result.now c.requires.place c.index.ensures ∙ sym c.rects.ensures in
    set_indexed bs c.args.change.block c.rects-2.result.now i c.trade.new.self (sym c.rects-2.ensures)
    (c.trade.ensures (runs bs) (omega (arith, c.requires.place, length_runs bs)) before c.requires.indexed)

pub changed-requires : goal.changed-requires
changed-requires c = rw c.len.ensures.value (some_of_all c.args.blocks.now.items c.args.change.place c.index-2.result.now c.args.number.now
    c.requires.place c.index-2.ensures c.requires.number)

pub returns-clause-number : goal.returns-clause-number
returns-clause-number c =
    let bs = c.args.blocks.now.items in
    let change = rw (c.len.ensures.value, c.len-2.ensures.value) at (c.changed.ensures.sum (length (all_rects bs)) c.requires.number) in
    block_changed bs c.args.change.place c.index-2.result.now c.args.change.block c.changed.result c.requires.place c.index-2.ensures change

use Rattle.std.proofs.Common.{◌≡◌, get_or, [], length, ap, sym, ◌∙◌, set, not, arith}
use Rattle.std.proofs.lemmas.List.{get_or-set_same}
use Rattle.std.specs.List.{filter}
use Rattle.plane_terms.specs.Rectangle.{is_within}
use Rattle.dirty_area.specs.Blocks.{Block, runs, all_rects}
use Rattle.dirty_area.proofs.Joins.{run_at, length_runs}
use Rattle.dirty_area.proofs.Rooms.{runs_set, room_set, set_indexed}
use Rattle.dirty_area.proofs.Numbers.{some_of_all, block_changed}
use Rattle.dirty_area.proofs.list.trim.Goals as goal

pub changed-requires : goal.changed-requires
changed-requires c = rw c.len-before.ensures.value (some_of_all c.args.blocks.now.items c.args.place c.index.result.now c.args.number.now
    c.requires.place c.index.ensures c.requires.number)

pub returns-clause-number : goal.returns-clause-number
returns-clause-number c =
    let bs = c.args.blocks.now.items in
    let b = c.drop_held-2.new.self in
    let left : length c.index-3.result.now.items ≡ length b.items =
    ap (λ (d : Block). length d.items) (c.index-3.ensures ∙ get_or-set_same bs c.args.place b c.index-3.result.now c.requires.place) in
    let change = rw (c.len-before.ensures.value, c.len.ensures.value, left) at (c.changed.ensures.sum (length (all_rects bs)) c.requires.number) in
    block_changed bs c.args.place c.index.result.now b c.changed.result c.requires.place c.index.ensures change

pub returns-clause-trimmed : goal.returns-clause-trimmed
returns-clause-trimmed c =
    let bs = c.args.blocks.now.items in
    let at = run_at bs c.args.place c.index_mut.result.now c.requires.place c.index_mut.ensures.value in
    runs_set bs c.args.place c.drop_held-2.new.self ∙ ap (set (runs bs) c.args.place) (c.drop_held-2.ensures.held
    ∙ ap (filter (λ s. not (is_within s c.args.r.now))) (sym at))

pub returns-clause-room : goal.returns-clause-room
returns-clause-room c = λ n. room_set c.args.blocks.now.items c.args.place c.index_mut.result.now c.drop_held-2.new.self n n c.requires.place
    c.index_mut.ensures.value (c.drop_held-2.ensures.room n) (λ d h. h)

pub returns-clause-indexed : goal.returns-clause-indexed
returns-clause-indexed c =
    let bs = c.args.blocks.now.items in
    let at = run_at bs c.args.place c.index_mut.result.now c.requires.place c.index_mut.ensures.value in
    let before : get_or (runs bs) c.args.place [] ≡ c.rects.result.now =
    run_at bs c.args.place c.index-2.result.now c.requires.place c.index-2.ensures ∙ sym c.rects.ensures in
    set_indexed bs c.drop_held-2.new.self (filter (λ s. not (is_within s c.args.r.now)) c.rects.result.now) c.args.place c.drop_held.new.self
    (c.drop_held-2.ensures.held ∙ ap (filter (λ s. not (is_within s c.args.r.now))) (sym at ∙ before))
    (c.drop_held.ensures (runs bs) (omega (arith, c.requires.place, length_runs bs)) before c.requires.indexed)

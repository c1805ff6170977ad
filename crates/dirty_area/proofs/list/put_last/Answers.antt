use Rattle.std.proofs.Common.{◌≡◌, ◌-◌, length, ◌∙◌, arith, rules, get_or, set}
use Rattle.std.specs.Prelude.{vec_len}
use Rattle.dirty_area.specs.Blocks.{runs, all_rects}
use Rattle.dirty_area.proofs.Rooms.{last_put, last_indexed, put_room}
use Rattle.dirty_area.proofs.Joins.{length_runs}
use Rattle.dirty_area.proofs.Numbers.{one_more}
use Rattle.dirty_area.proofs.list.put_last.Goals as goal

pub returns-clause-put : goal.returns-clause-put
returns-clause-put c =
    let bs = c.args.blocks.now.items in
    let len : vec_len c.args.blocks.now ≡ length bs = search rules in
    let n : c.len-last.result ≡ length bs = c.len-last.ensures ∙ len in
    let at : c.index_mut.result.now ≡ get_or bs (length bs - 1) c.index_mut.result.now = rw n at c.index_mut.ensures.value in
    rw n (last_put bs c.index_mut.result.now c.put-2.new.self c.args.r c.requires.room.0 at c.put-2.ensures.put)

pub returns-clause-room : goal.returns-clause-room
returns-clause-room c =
    let bs = c.args.blocks.now.items in
    let len : vec_len c.args.blocks.now ≡ length bs = search rules in
    let n : c.len-last.result ≡ length bs = c.len-last.ensures ∙ len in
    let at : c.index_mut.result.now ≡ get_or bs (length bs - 1) c.index_mut.result.now = rw n at c.index_mut.ensures.value in
    rw n (λ n. put_room bs c.index_mut.result.now c.put-2.new.self n c.requires.room.0 at (c.put-2.ensures.room n))

pub returns-clause-indexed : goal.returns-clause-indexed
returns-clause-indexed c =
    let bs = c.args.blocks.now.items in
    let len : vec_len c.args.blocks.now ≡ length bs = search rules in
    let n : c.len-last.result ≡ length bs = c.len-last.ensures ∙ len in
    last_indexed bs c.index_mut.result.now c.put-2.new.self c.args.r (c.len-last.result - 1) c.put.new.self
    (omega (arith, c.requires.room.0, n)) c.index_mut.ensures.value c.put-2.ensures.put
    (c.put.ensures (runs bs) (omega (arith, c.requires.room.0, n, length_runs bs)) c.requires.indexed)

pub returns-clause-number : goal.returns-clause-number
returns-clause-number c =
    let bs = c.args.blocks.now.items in
    let len : vec_len c.args.blocks.now ≡ length bs = search rules in
    let n : c.len-last.result ≡ length bs = c.len-last.ensures ∙ len in
    let at : c.index_mut.result.now ≡ get_or bs (length bs - 1) c.index_mut.result.now = rw n at c.index_mut.ensures.value in
    rw n (one_more (all_rects bs) (all_rects (set bs (length bs - 1) c.put-2.new.self)) c.args.r c.changed.result
    (last_put bs c.index_mut.result.now c.put-2.new.self c.args.r c.requires.room.0 at c.put-2.ensures.put)
    (c.changed.ensures.sum (length (all_rects bs)) c.requires.number))

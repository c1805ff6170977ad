use Rattle.std.proofs.Common.{◌≡◌, ◌<◌, ◌-◌, length, ap, sym, arith, rules, subst}
use Rattle.std.specs.Prelude.{vec_len}
use Rattle.dirty_area.specs.Blocks.{joined}
use Rattle.dirty_area.specs.Indexed.{IsIndexed}
use Rattle.dirty_area.proofs.Rooms.{same_runs, same_or_pushed, same_joined}
use Rattle.dirty_area.proofs.list.make_room.Goals as goal

pub returns-then-needs_block-clause-same : goal.returns-then-needs_block-clause-same
returns-then-needs_block-clause-same c = same_joined _ _ _ c.add_block.ensures.ok c.add_block.ensures.err

pub returns-then-needs_block-clause-indexed : goal.returns-then-needs_block-clause-indexed
returns-then-needs_block-clause-indexed c = λ ps h. same_or_pushed _ _ _ ps c.add_block.ensures.ok c.add_block.ensures.err h

pub returns-clause-same : goal.returns-clause-same
returns-clause-same c =
    let bs = c.args.blocks.now.items in
    let some : 0 < length bs = subst (λ ds. 0 < length ds) c.deref.ensures.value (c.needs_block.ensures c.if-needs_block.false) in
    let len : vec_len c.args.blocks.now ≡ length bs = search rules in
    let l : c.len-last.result - 1 < length bs = omega (arith, c.len-last.ensures, len, some) in
    ap joined (same_runs bs (c.len-last.result - 1) c.index_mut.result.now c.reserve.new.self l c.index_mut.ensures.value c.reserve.ensures.same)

pub returns-clause-indexed : goal.returns-clause-indexed
returns-clause-indexed c = λ ps h.
    let bs = c.args.blocks.now.items in
    let some : 0 < length bs = subst (λ ds. 0 < length ds) c.deref.ensures.value (c.needs_block.ensures c.if-needs_block.false) in
    let len : vec_len c.args.blocks.now ≡ length bs = search rules in
    let l : c.len-last.result - 1 < length bs = omega (arith, c.len-last.ensures, len, some) in
    subst (λ xss. IsIndexed xss ps)
    (sym (same_runs bs (c.len-last.result - 1) c.index_mut.result.now c.reserve.new.self l c.index_mut.ensures.value c.reserve.ensures.same)) h

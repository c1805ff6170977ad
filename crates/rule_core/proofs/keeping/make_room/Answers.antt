use Rattle.std.proofs.Common.{◌∙◌, sym, arith}
use Rattle.rule_core.specs.Kept.{size_of, LeavesRoom}
use Rattle.rule_core.proofs.Totals.{last_out}
use Rattle.rule_core.proofs.Rooms.{last_goes}
use Rattle.rule_core.proofs.keeping.make_room.Goals as goal
use Rattle.rule_core.proofs.keeping.make_room.Goals.{then-len-features, else-len-features+then-halves-room}

pub overflow_sub-halves : goal.overflow_sub-halves
overflow_sub-halves c =
    let e = last_out size_of c.loop-cache.cache.entries (c.in-Some.field-0-0, c.in-Some.last) (sym c.pop_lru.ensures.value ∙ c.in-Some.is)
    in
    omega (arith, e, c.halves-halves.ensures, c.loop-cache.invariant.counted)

pub loop-cache-preserved : goal.loop-cache-preserved
loop-cache-preserved c =
    let none : LeavesRoom c.args.region c.args.more c.loop-cache.cache.entries → ⊥ = λ room. elim c.if-len-features.branch [
      | then-len-features w ↦ omega (arith, room.features, c.len.ensures.len, c.get-features.ensures.value, c.most_features.ensures, w.if-len-features.true)
      | else-len-features+then-halves-room w ↦ omega (arith, room.halves, c.loop-cache.invariant.counted, c.most_halves.ensures, w.if-halves-room.true)
    ] in
    let e = last_out size_of c.loop-cache.cache.entries (c.in-Some.field-0-0, c.in-Some.last) (sym c.pop_lru.ensures.value ∙ c.in-Some.is)
    in
    record {
      counted = rw c.pop_lru.ensures.entries (omega (arith, e, c.halves-halves.ensures, c.loop-cache.invariant.counted));
      most = rw c.pop_lru.ensures.entries (last_goes c.args.region c.args.more c.args.cache.now.entries c.loop-cache.cache.entries c.loop-cache.invariant.most none);
      cap = rw c.pop_lru.ensures.entries c.loop-cache.invariant.cap;
    }

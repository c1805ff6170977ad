use Rattle.std.proofs.Common.{◌≡◌, ◌+◌, ◌-◌, [], drop, subst, arith}
use Rattle.feature_store.specs.Slots.{filled}
use Rattle.feature_store.proofs.Filling.{last_filled}
use Rattle.feature_store.proofs.slots.last_of.Goals as goal

pub returns-in-Some : goal.returns-in-Some
returns-in-Some c =
    let left = c.loop-left.left in
    let next : left ≡ left - 1 + 1 = omega arith in
    last_filled c.args.slots.now (left - 1) c.index-slots-left.result c.in-Some.feature.now (omega arith) c.index-slots-left.is
    c.in-Some.ensures (subst (λ n. filled (drop n c.args.slots.now) ≡ []) next c.loop-left.invariant.none)

use Rattle.std.proofs.Common.{◌≡◌, ◌≤◌, [], drop, length}
use Rattle.feature_store.specs.Slots.{filled}
use Rattle.feature_store.proofs.slots.last_of.Given as goal

abbrev pub invariant-loop-left : goal.invariant-loop-left
invariant-loop-left l = record {
  within : l.left ≤ length l.slots;
  none : filled (drop l.left l.slots) ≡ [];
}

abbrev pub decreases-loop-left : goal.decreases-loop-left
decreases-loop-left l = l.left

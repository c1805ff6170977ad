use Rattle.std.proofs.Common.{◌≡◌, take}
use Rattle.feature_store.specs.Slots.{filled}
use Rattle.fix_tools.proofs.ask.view_of.Given as goal

abbrev pub invariant-loop-slot : goal.invariant-loop-slot
invariant-loop-slot l = l.view ≡ filled (take l.slot-index l.slots)

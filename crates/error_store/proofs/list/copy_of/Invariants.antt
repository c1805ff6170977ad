use Rattle.std.proofs.Common.{◌≡◌, take}
use Rattle.error_store.proofs.list.copy_of.Given as goal

abbrev pub invariant-loop-e : goal.invariant-loop-e
invariant-loop-e l = l.copy.items ≡ take l.e-index l.entries

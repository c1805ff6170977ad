use Rattle.std.proofs.Common.{◌≡◌, take}
use Rattle.feature_store.proofs.class.copy_classes.Given as goal

abbrev pub invariant-loop-class : goal.invariant-loop-class
invariant-loop-class l = l.copy.items ≡ take l.class-index l.classes

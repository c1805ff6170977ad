use Rattle.std.proofs.Common.{◌≡◌, take}
use Rattle.std.specs.Bool.{Decides}
use Rattle.shape.proofs.same.is_same_block.Given as goal

abbrev pub invariant-loop-i : goal.invariant-loop-i
invariant-loop-i l = Decides l.is_same (take l.i l.block ≡ take l.i l.other)

use Rattle.std.proofs.Common.{◌≡◌, take}
use Rattle.shape.specs.Given.{rings_in}
use Rattle.shape.proofs.same.are_same_rings.Given as goal

abbrev pub invariant-loop-i : goal.invariant-loop-i
invariant-loop-i l = take l.i (rings_in l.rings) ≡ take l.i (rings_in l.others)

use Rattle.std.proofs.Common.{◌≡◌, ◌++◌, drop}
use Rattle.shape.specs.Given.{rings_in}
use Rattle.shape.proofs.same.copy_of_rings.Given as goal

abbrev pub invariant-loop-ring : goal.invariant-loop-ring
invariant-loop-ring l = rings_in l.copy.items ++ rings_in (drop l.ring-index l.rings) ≡ rings_in l.rings

use Rattle.std.proofs.Common.{◌≡◌, ◌++◌, take}
use Rattle.shape.specs.Given.{rings_in}
use Rattle.fix_tools.proofs.ends.push_copies.Given as goal

abbrev pub invariant-loop-part : goal.invariant-loop-part
invariant-loop-part l = rings_in l.made.items ≡ rings_in l.initial.made.items ++ rings_in (take l.part-index l.parts)

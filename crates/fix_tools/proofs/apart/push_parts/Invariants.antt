use Rattle.std.proofs.Common.{◌≡◌, ◌++◌, take}
use Rattle.shape.specs.Given.{rings_in}
use Rattle.fix_tools.specs.Explode.{added_parts}
use Rattle.fix_tools.proofs.apart.push_parts.Given as goal

abbrev pub invariant-loop-part : goal.invariant-loop-part
invariant-loop-part l = l.edits.items ≡ l.initial.edits.items ++ added_parts l.feature (rings_in (take l.part-index l.parts))

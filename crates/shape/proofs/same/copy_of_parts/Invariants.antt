use Rattle.std.proofs.Common.{◌≡◌, ◌++◌, drop}
use Rattle.shape.specs.Given.{polygons_in}
use Rattle.shape.proofs.same.copy_of_parts.Given as goal

abbrev pub invariant-loop-part : goal.invariant-loop-part
invariant-loop-part l = polygons_in l.copy.items ++ polygons_in (drop l.part-index l.parts) ≡ polygons_in l.parts

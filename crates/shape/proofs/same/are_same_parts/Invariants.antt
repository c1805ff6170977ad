use Rattle.std.proofs.Common.{◌≡◌, take}
use Rattle.shape.specs.Given.{polygons_in}
use Rattle.shape.proofs.same.are_same_parts.Given as goal

abbrev pub invariant-loop-i : goal.invariant-loop-i
invariant-loop-i l = take l.i (polygons_in l.parts) ≡ take l.i (polygons_in l.others)

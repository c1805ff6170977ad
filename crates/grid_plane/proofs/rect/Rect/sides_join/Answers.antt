use Rattle.std.proofs.Common.{arith}
use Rattle.std.proofs.lemmas.Int.{ints, clamps, to_z-of_z}
use Rattle.grid_plane.proofs.rect.Rect.sides_join.Goals as goal

pub invariant_of-result : goal.invariant_of-result
invariant_of-result c = omega (arith, ints, clamps)

pub returns : goal.returns
returns c = rw (← c.self.view_is, ← c.other.view_is) (grind (arith, to_z-of_z, ints))

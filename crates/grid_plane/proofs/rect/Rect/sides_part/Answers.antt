use Rattle.std.proofs.Common.{arith}
use Rattle.std.proofs.lemmas.Int.{ints, clamps, to_z-of_z}
use Rattle.grid_plane.proofs.Rectangles.{crossing}
use Rattle.grid_plane.proofs.rect.Rect.sides_part.Goals as goal

pub invariant_of-result : goal.invariant_of-result
invariant_of-result c =
    let k = rw (← c.self.view_is, ← c.other.view_is) at (crossing c.args.self.now c.args.other.now c.requires) in
    omega (arith, ints, clamps, k.0, k.1.0, k.1.1.0, k.1.1.1)

pub returns : goal.returns
returns c = rw (← c.self.view_is, ← c.other.view_is) (grind (arith, to_z-of_z, ints))

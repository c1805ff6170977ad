use Rattle.std.proofs.Common.{arith}
use Rattle.std.proofs.lemmas.Int.{ints, to_z-of_z}
use Rattle.dirty_area.proofs.pieces.left.Goals as goal

pub returns-then-x0 : goal.returns-then-x0
returns-then-x0 c = grind (arith, to_z-of_z, ints)

use Rattle.std.proofs.Common.{arith}
use Rattle.std.proofs.lemmas.Int.{ints, clamps, to_z-of_z}
use Rattle.dirty_area.proofs.Calls.{common_sides}
use Rattle.dirty_area.proofs.pieces.above.Goals as goal

pub of_sides-requires : goal.of_sides-requires
of_sides-requires c =
    let k = common_sides c.args.common.now c.args.r.now c.args.w.now c.requires c.corner_law.ensures c.corner_law-2.ensures in
    omega (arith, ints, clamps)

pub returns-then-y1 : goal.returns-then-y1
returns-then-y1 c = grind (arith, to_z-of_z, ints)

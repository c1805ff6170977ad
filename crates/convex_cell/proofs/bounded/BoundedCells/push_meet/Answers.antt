use Rattle.std.proofs.Common.{refl}
use Rattle.convex_cell.proofs.Pieces.{bounds_met}
use Rattle.convex_cell.proofs.bounded.BoundedCells.push_meet.Goals as goal

pub push_both-requires : goal.push_both-requires
push_both-requires c = bounds_met c.args.own.now c.args.bounds.now c.common_bounds.result c.args.cell.now c.args.other.now _ refl
    c.requires.own c.requires.other c.common_bounds.ensures.x_fits c.common_bounds.ensures.y_fits c.common_bounds.ensures.sound

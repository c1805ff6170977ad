use Rattle.convex_cell.proofs.Pieces.{bounds_of_both}
use Rattle.convex_cell.proofs.piece.is_clear_of.Goals as goal

pub is_empty_together-requires : goal.is_empty_together-requires
is_empty_together-requires c =
    let e = c.common_bounds.ensures in
    bounds_of_both c.args.bounds.now c.args.other_bounds.now c.common_bounds.result
    c.args.halves.now c.args.other.now c.requires.own c.requires.other e.x_fits e.y_fits e.sound

use Rattle.std.proofs.Common.{◌++◌, sym}
use Rattle.plane_terms.specs.Cell.{Cell, HasPoint, meet_of}
use Rattle.cell_laws.proofs.Decision.{has_point-true}
use Rattle.convex_cell.proofs.Both.{meet_has}
use Rattle.convex_cell.proofs.Pieces.{bounds_of_both}
use Rattle.convex_cell.proofs.needed.meets.Goals as goal

pub returns-then-is_in_both-clause-meets : goal.returns-then-is_in_both-clause-meets
returns-then-is_in_both-clause-meets c =
    let own : Cell = c.args.cell.now in
    let other : Cell = c.args.other.now in
    let some : HasPoint (own ++ other) = c.if-is_in_both.ensures in
    sym ((has_point-true (meet_of own other)).1 ((meet_has own other).1 some))

pub returns-then-has_end_in_both-clause-meets : goal.returns-then-has_end_in_both-clause-meets
returns-then-has_end_in_both-clause-meets c =
    let own : Cell = c.args.cell.now in
    let other : Cell = c.args.other.now in
    let some : HasPoint (own ++ other) = c.if-has_end_in_both.ensures in
    sym ((has_point-true (meet_of own other)).1 ((meet_has own other).1 some))

pub meet_is_empty-requires-clause-common : goal.meet_is_empty-requires-clause-common
meet_is_empty-requires-clause-common c =
    let e = c.common_bounds.ensures in
    bounds_of_both c.args.bounds.now c.args.other_bounds.now c.common_bounds.result c.args.cell.now c.args.other.now c.requires.cell
    c.requires.other e.x_fits e.y_fits e.sound

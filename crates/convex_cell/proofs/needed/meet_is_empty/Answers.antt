use Rattle.convex_cell.specs.Needed.{SameCells}
use Rattle.convex_cell.proofs.Both.{meet_decided, meet_decided_by}
use Rattle.convex_cell.proofs.Pieces.{bounds_of_same}
use Rattle.convex_cell.proofs.needed.meet_is_empty.Goals as goal

pub is_empty_together-requires : goal.is_empty_together-requires
is_empty_together-requires c =
    let same : SameCells c.deref.result.now c.args.cell.now = rw c.deref.ensures.value (rw c.in-Some.is at c.requires.needed) in
    bounds_of_same c.args.common.now c.args.cell.now c.deref.result.now c.args.other.now same c.requires.common

pub returns-in-Some : goal.returns-in-Some
returns-in-Some c =
    let same : SameCells c.deref.result.now c.args.cell.now = rw c.deref.ensures.value (rw c.in-Some.is at c.requires.needed) in
    meet_decided_by c.is_empty_together.result c.deref.result.now c.args.cell.now c.args.other.now same c.is_empty_together.ensures.empty
    c.is_empty_together.ensures.point

pub returns-in-None : goal.returns-in-None
returns-in-None c = meet_decided c.is_empty_together-in-None.result c.args.cell.now c.args.other.now
    c.is_empty_together-in-None.ensures.empty c.is_empty_together-in-None.ensures.point

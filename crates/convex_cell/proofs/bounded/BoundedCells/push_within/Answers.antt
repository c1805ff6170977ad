use Rattle.convex_cell.proofs.Pieces.{bounded_more}
use Rattle.convex_cell.proofs.bounded.BoundedCells.push_within.Goals as goal

pub invariant_of-self-in_default : goal.invariant_of-self-in_default
invariant_of-self-in_default c = bounded_more c.self.inside.bounds.items _ c.self.inside.cells _ c.args.bounds c.args.halves.now
    c.self.invariant.bounds c.self.invariant.same c.requires c.in_ok-push.ensures.items c.in_default.ensures.ok

use Rattle.std.proofs.Common.{◌≡◌, true, append-nil, sym}
use Rattle.plane_terms.specs.Decide.{has_point}
use Rattle.cell_laws.proofs.Decision.{has_point-true}
use Rattle.convex_cell.proofs.Empty.{no_point}
use Rattle.convex_cell.proofs.bounded.BoundedCells.push_if_some.Goals as goal

pub returns-then-is_empty_within-clause-ok : goal.returns-then-is_empty_within-clause-ok
returns-then-is_empty_within-clause-ok c = rw (no_point c.args.halves.now c.if-is_empty_within.ensures.empty) (sym (append-nil c.args.self.now))

pub returns-clause-ok : goal.returns-clause-ok
returns-clause-ok c =
    let some : has_point c.args.halves.now ≡ true = (has_point-true c.args.halves.now).1 c.if-is_empty_within.ensures.point in
    rw some c.push_within.ensures.ok

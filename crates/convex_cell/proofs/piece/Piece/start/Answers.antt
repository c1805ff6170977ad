use Rattle.std.proofs.Common.{subst}
use Rattle.plane_terms.specs.Cell.{Cell}
use Rattle.convex_cell.specs.Span.{IsBoundsOf}
use Rattle.convex_cell.specs.Needed.{SameCells}
use Rattle.convex_cell.proofs.Pieces.{in_same, bounds_same}
use Rattle.convex_cell.proofs.piece.Piece.start.Goals as goal

pub invariant_of-self-2 : goal.invariant_of-self-2
invariant_of-self-2 c =
    let made : Cell = c.start_with.new.halves.items in
    record {
      bounds = bounds_same c.bounds_of-bounds.result c.args.cell.now made (subst (SameCells made) c.halves-2.ensures c.in_ok-start_with.ensures.ok)
          (subst (IsBoundsOf c.bounds_of-bounds.result) c.halves.ensures c.bounds_of-bounds.ensures);
      some = tt;
    }

pub returns-clause-ok : goal.returns-clause-ok
returns-clause-ok c =
    let made : Cell = c.start_with.new.halves.items in
    in_same made c.args.cell.now (subst (SameCells made) c.halves-2.ensures c.in_ok-start_with.ensures.ok)

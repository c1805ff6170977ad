use Rattle.std.proofs.Common.{◌≡◌, ◌↔◌, List, subst, sym}
use Rattle.plane_terms.specs.Point.{Point}
use Rattle.plane_terms.specs.Cell.{Cell, InCell, InCells, out_of_cell}
use Rattle.cell_laws.proofs.Outside.{out_of_cell_points}
use Rattle.convex_cell.proofs.Results.{if_ok}
use Rattle.convex_cell.proofs.cells.cells_out_of.Goals as goal

pub returns-clause-points : goal.returns-clause-points
returns-clause-points c =
    let a = c.args.halves.now in
    let P : List Cell → Type 0 = λ cells. (p : Point) → InCells cells p ↔ ¬ (InCell a p) in
    if_ok (λ cells. cells ≡ out_of_cell a) P _ (λ cells e. subst P (sym e) (out_of_cell_points a)) c.negations.ensures

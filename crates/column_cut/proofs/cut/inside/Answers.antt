use Rattle.std.proofs.Common.{◌≡◌, ◌↔◌, List, subst, sym}
use Rattle.plane_terms.specs.Point.{Point}
use Rattle.plane_terms.specs.Polygon.{IsSimpleList, IsInside}
use Rattle.plane_terms.specs.Cell.{Cell, InCells}
use Rattle.plane_terms.specs.Columns.{inside_cells}
use Rattle.column_laws.proofs.Exact.{inside_is_exact}
use Rattle.convex_cell.proofs.Results.{if_ok}
use Rattle.column_cut.proofs.cut.inside.Goals as goal

pub returns-clause-points : goal.returns-clause-points
returns-clause-points c =
    let ss = c.args.segments.now in
    let P : List Cell → Type 0 = λ cells. IsSimpleList ss → (p : Point) → InCells cells p ↔ IsInside ss p in
    if_ok (λ cells. cells ≡ inside_cells ss) P _ (λ cells e. subst P (sym e) (inside_is_exact ss)) c.inside_of.ensures

use Rattle.std.proofs.Common.{◌≡◌, ℕ, List, length, arith, subst}
use Rattle.plane_terms.specs.Cell.{Cell}
use Rattle.convex_cell.proofs.Flats.{cells_long}
use Rattle.convex_cell.proofs.cells.Cells.len.Goals as goal

pub returns : goal.returns
returns c =
    let hs : Cell = c.self.inside.halves.items in
    let es : List ℕ = c.self.inside.ends.items in
    subst (λ (cs : List Cell). c.len.result ≡ length cs) c.self.view_is (omega (arith, c.len.ensures, cells_long hs 0 es))

use Rattle.std.proofs.Common.{ℕ, List, length, arith, ap}
use Rattle.plane_terms.specs.Cell.{Cell}
use Rattle.convex_cell.proofs.Flats.{cells_long}
use Rattle.convex_cell.proofs.cells.Cells.halves_at.Goals as goal

pub cell_between-requires-clause-within : goal.cell_between-requires-clause-within
cell_between-requires-clause-within c =
    let hs : Cell = c.self.inside.halves.items in
    let es : List ℕ = c.self.inside.ends.items in
    rw (c.deref-2.ensures.value) (omega (arith, c.requires, ap (λ (cs : List Cell). length cs) c.self.view_is, cells_long hs 0 es))

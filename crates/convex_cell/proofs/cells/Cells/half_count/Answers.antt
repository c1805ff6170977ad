use Rattle.std.proofs.Common.{◌≡◌, ℕ, List, length, sum_by, arith, subst}
use Rattle.plane_terms.specs.Cell.{Cell}
use Rattle.convex_cell.proofs.Flats.{halves_counted}
use Rattle.convex_cell.proofs.cells.Cells.half_count.Goals as goal

pub returns : goal.returns
returns c =
    let hs : Cell = c.self.inside.halves.items in
    let es : List ℕ = c.self.inside.ends.items in
    let all = halves_counted hs (length hs) 0 es c.self.invariant (omega arith) in
    subst (λ (cs : List Cell). c.len.result ≡ sum_by (λ (d : Cell). length d) cs) c.self.view_is (omega (arith, c.len.ensures, all))

use Rattle.std.proofs.Common.{◌+◌, add-one, subst, sym, arith, ℕ, List, take, ◌≡◌}
use Rattle.corner_terms.specs.CornerLists.{AreOfCell, AreOfCells}
use Rattle.corner_terms.specs.declared.cell_corner.CellCorner.{CellCorner}
use Rattle.cell_corners.proofs.Told.{cells_more}
use Rattle.cell_corners.proofs.listed.corners_of_cells.Goals as goal

pub loop-i-preserved : goal.loop-i-preserved
loop-i-preserved c =
    let m = c.in_ok-push_of_cell.ensures in
    let cs = c.args.cells.now in
    let i = c.loop-i.i in
    let own = subst (λ (n : ℕ). AreOfCell n c.cell.result m.0) (order i) m.2 in
    let more = cells_more 1 cs i c.cell.result c.loop-i.found.items m.0 c.cell.ensures c.loop-i.invariant own in
    subst (λ (ks : List CellCorner). AreOfCells 1 (take (i + 1) cs) ks) (sym m.1) (rw add-one more)
  where
    order : (i : ℕ) → i + 1 ≡ 1 + i
    order i = omega arith

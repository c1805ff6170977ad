use Rattle.std.proofs.Common.{◌≡◌, ◌++◌, ◌∷◌, [], ℕ, List, OnOk, arith, subst}
use Rattle.plane_terms.specs.Cell.{Cell}
use Rattle.convex_cell.specs.Flat.{cells_at}
use Rattle.convex_cell.proofs.Flats.{put_ends, put_cells}
use Rattle.convex_cell.proofs.cells.Cells.push_halves.Goals as goal

pub invariant_of-self : goal.invariant_of-self
invariant_of-self c =
    let hs : Cell = c.self.inside.halves.items in
    let es : List ℕ = c.self.inside.ends.items in
    let e = c.end_cell.ensures in
    put_ends c.end_cell.result c.put_all-put.result hs c.put_all-put.new.halves.items c.end_cell.new.halves.items c.args.halves.now es c.end_cell.new.ends.items
    c.len-len.result c.self.invariant (omega (arith, c.len-len.ensures)) c.put_all-put.ensures.ok c.put_all-put.ensures.begins e.put e.halves e.ends
    e.err_halves e.err_ends

pub returns-clause-ok : goal.returns-clause-ok
returns-clause-ok c =
    let hs : Cell = c.self.inside.halves.items in
    let es : List ℕ = c.self.inside.ends.items in
    let e = c.end_cell.ensures in
    subst (λ (cs : List Cell). OnOk c.end_cell.result (cells_at c.end_cell.new.halves.items 0 c.end_cell.new.ends.items ≡ cs ++ c.args.halves.now ∷ []))
    c.self.view_is (put_cells c.end_cell.result c.put_all-put.result hs c.put_all-put.new.halves.items c.end_cell.new.halves.items c.args.halves.now es
    c.end_cell.new.ends.items c.self.invariant c.put_all-put.ensures.ok e.put e.halves e.ends)

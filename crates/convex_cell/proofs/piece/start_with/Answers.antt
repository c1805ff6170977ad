use Rattle.std.proofs.Common.{◌≡◌, sym, subst}
use Rattle.plane_terms.specs.Cell.{Cell}
use Rattle.convex_cell.specs.Needed.{SameCells}
use Rattle.convex_cell.proofs.piece.start_with.Goals as goal

pub returns-in_ok-extend_from_slice-in-Some-clause-ok : goal.returns-in_ok-extend_from_slice-in-Some-clause-ok
returns-in_ok-extend_from_slice-in-Some-clause-ok c =
    let all : c.extend_from_slice.new.self.items ≡ c.in-Some.needed.items =
    rw (c.in_ok-extend_from_slice-in-Some.ensures.items, c.requires.empty) c.deref.ensures.value in
    subst (λ (hs : Cell). SameCells hs c.args.cell.now) (sym all) (rw c.in-Some.is at c.in_ok-needed.ensures)

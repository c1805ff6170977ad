use Rattle.std.proofs.Common.{◌≡◌, List, slice_get, Some, sym, subst}
use Rattle.plane_terms.specs.Cell.{Cell}
use Rattle.convex_cell.proofs.Steps.{clear_at, nowhere}
use Rattle.convex_cell.proofs.bounded.BoundedCells.window.Goals as goal

pub returns-clause-clear : goal.returns-clause-clear
returns-clause-clear c = λ a own k d e h.
    let inv = c.self.invariant in
    let same = c.deref.ensures.value in
    clear_at c.args.own.now c.self.inside.bounds.items c.self.inside.cells k inv.bounds inv.same
    (λ l. rw (← same) (c.window_of.ensures.apart k nowhere (rw same l) h)) a own d
    (subst (λ (cs : List Cell). slice_get cs k ≡ Some d) (sym c.self.view_is) e)

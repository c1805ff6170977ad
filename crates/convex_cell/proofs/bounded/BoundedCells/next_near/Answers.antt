use Rattle.std.proofs.Common.{◌≡◌, List, slice_get, Some, sym, subst}
use Rattle.std.proofs.lemmas.Option.{IfSome_then}
use Rattle.plane_terms.specs.Cell.{Cell}
use Rattle.convex_cell.proofs.Steps.{clear_at, nowhere, if_none_then}
use Rattle.convex_cell.proofs.bounded.BoundedCells.next_near.Goals as goal

pub returns-clause-none : goal.returns-clause-none
returns-clause-none c = if_none_then c.next_near.result (λ f a own k d e l h.
    let inv = c.self.invariant in
    clear_at c.args.own.now c.self.inside.bounds.items c.self.inside.cells k inv.bounds inv.same
    (λ _. rw (← c.deref.ensures.value) (f k nowhere l h)) a own d
    (subst (λ (cs : List Cell). slice_get cs k ≡ Some d) (sym c.self.view_is) e)) c.next_near.ensures.none

pub returns-clause-clear : goal.returns-clause-clear
returns-clause-clear c = IfSome_then c.next_near.result c.next_near.ensures.apart (λ i f a own k d e l h.
    let inv = c.self.invariant in
    clear_at c.args.own.now c.self.inside.bounds.items c.self.inside.cells k inv.bounds inv.same
    (λ _. rw (← c.deref.ensures.value) (f k nowhere l h)) a own d
    (subst (λ (cs : List Cell). slice_get cs k ≡ Some d) (sym c.self.view_is) e))

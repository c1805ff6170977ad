use Rattle.std.proofs.Common.{List, sym, subst}
use Rattle.std.specs.Prelude.{◌≡◌, slice_get, Some}
use Rattle.std.proofs.lemmas.Option.{get_or_from_slice_get, slice_get_within}
use Rattle.plane_terms.specs.Cell.{Cell}
use Rattle.convex_cell.specs.Span.{IsBoundsOf}
use Rattle.convex_cell.proofs.Steps.{bounds_at}
use Rattle.convex_cell.proofs.bounded.BoundedCells.bounds_at.Goals as goal

pub returns : goal.returns
returns c = λ d e.
    let i = c.args.i in
    let inv = c.self.invariant in
    let own : List Cell = c.self.inside.cells in
    let at : slice_get own i ≡ Some d = subst (λ (cs : List Cell). slice_get cs i ≡ Some d) (sym c.self.view_is) e in
    subst (λ b. IsBoundsOf b d) (sym c.index.ensures) (bounds_at c.self.inside.bounds.items own i _ d inv.bounds inv.same
    (slice_get_within own i d at) (sym (get_or_from_slice_get own i d d at)))

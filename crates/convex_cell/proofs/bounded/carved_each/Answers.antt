use Rattle.std.proofs.Common.{◌++◌, ◌∙◌, ap, map, sym}
use Rattle.std.proofs.lemmas.Option.{get_or_from_slice_get, slice_get_within}
use Rattle.plane_terms.specs.Carve.{kept}
use Rattle.plane_terms.specs.Cell.{Cell, meet_of}
use Rattle.convex_cell.proofs.Carves.{carve_more}
use Rattle.convex_cell.proofs.Steps.{bounds_at}
use Rattle.convex_cell.proofs.bounded.carved_each.Goals as goal

pub push_met-requires-clause-own : goal.push_met-requires-clause-own
push_met-requires-clause-own c =
    let cs = c.args.cells.now in
    let i = c.loop-i.i in
    let d = c.halves_at.result.now in
    bounds_at c.args.own.now cs i _ d c.requires.own c.requires.own_same (slice_get_within cs i d c.halves_at.ensures)
    (sym (get_or_from_slice_get cs i d d c.halves_at.ensures))

pub loop-i-preserved : goal.loop-i-preserved
loop-i-preserved c =
    let d = c.halves_at.result.now in
    c.in_ok-push_met.ensures ∙ (ap (λ y. y ++ kept (map {A = Cell} (meet_of d) c.args.by.now)) c.loop-i.invariant
    ∙ sym (carve_more c.args.cells.now c.args.by.now c.loop-i.i d c.halves_at.ensures))

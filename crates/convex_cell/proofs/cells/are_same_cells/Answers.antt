use Rattle.std.proofs.Common.{◌≡◌, ◌∙◌, refl, sym}
use Rattle.plane_terms.specs.Cell.{Cell}
use Rattle.convex_cell.proofs.Flats.{taken}
use Rattle.convex_cell.proofs.cells.are_same_cells.Goals as goal

pub loop-i-preserved : goal.loop-i-preserved
loop-i-preserved c =
    let i = c.loop-i.i in
    let x : Cell = c.halves_at.result.now in
    let y : Cell = c.halves_at-in-loop-i.result.now in
    let same : x ≡ y = c.if-not-are_same_halves.ensures.0 refl in
    taken c.args.first.now i x c.halves_at.ensures ∙ (rw (c.loop-i.invariant, same) refl
    ∙ sym (taken c.args.second.now i y c.halves_at-in-loop-i.ensures))

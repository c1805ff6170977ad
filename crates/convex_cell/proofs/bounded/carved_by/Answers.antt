use Rattle.std.proofs.Common.{◌++◌, ◌∙◌, ap, map, sym}
use Rattle.plane_terms.specs.Carve.{kept}
use Rattle.plane_terms.specs.Cell.{Cell, meet_of}
use Rattle.convex_cell.proofs.Carves.{carve_more}
use Rattle.convex_cell.proofs.bounded.carved_by.Goals as goal

pub loop-i-preserved : goal.loop-i-preserved
loop-i-preserved c =
    let d = c.halves_at-cell.result.now in
    c.in_ok-push_met.ensures ∙ (ap (λ y. y ++ kept (map {A = Cell} (meet_of d) c.args.by.now)) c.loop-i.invariant
    ∙ sym (carve_more c.args.cells.now c.args.by.now c.loop-i.i d c.halves_at-cell.ensures))

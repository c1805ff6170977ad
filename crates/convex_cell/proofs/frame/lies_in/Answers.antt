use Rattle.convex_cell.specs.Span.{InBounds}
use Rattle.convex_cell.proofs.Frames.{in_first}
use Rattle.convex_cell.proofs.Ranges.{on_true}
use Rattle.convex_cell.proofs.frame.lies_in.Goals as goal

pub returns : goal.returns
returns c = on_true c.are_between-2.result _ _ (λ f p m.
    let b = c.bounds_of-bounds.ensures in
    let k = in_first c.min-few.result c.args.halves.now p m in
    let i : InBounds c.bounds_of-bounds.result p = record { along = b.x p k; up = b.y p k } in
    (c.if-not-are_between.ensures p i, f p i)) c.are_between-2.ensures

use Rattle.convex_cell.proofs.Codes.{passed}
use Rattle.convex_cell.proofs.piece.bounds_round.Goals as goal

pub returns-clause-sound : goal.returns-clause-sound
returns-clause-sound c = λ p h.
    let left = passed _ _ c.x0.ensures.bound c.x0.ensures.value in
    let right = passed _ _ c.x1.ensures.bound c.x1.ensures.value in
    let below = passed _ _ c.y0.ensures.bound c.y0.ensures.value in
    let above = passed _ _ c.y1.ensures.bound c.y1.ensures.value in
    record {
      along = (rw (left, right) at (c.span_of.ensures.sound p.x p.w p.positive)) h.left h.right;
      up = (rw (below, above) at (c.span_of-2.ensures.sound p.y p.w p.positive)) h.below h.above;
    }

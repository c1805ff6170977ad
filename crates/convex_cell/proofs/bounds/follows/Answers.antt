use Rattle.convex_cell.proofs.Ranges.{on_true}
use Rattle.convex_cell.proofs.bounds.follows.Goals as goal

pub returns : goal.returns
returns c = on_true c.is_under-2.result _ _ (λ h. record {
  from = c.if-not-is_under.ensures.0;
  to = c.if-not-is_under.ensures.1;
  up_from = λ f t. h.0;
  up_to = λ f t. h.1;
}) c.is_under-2.ensures

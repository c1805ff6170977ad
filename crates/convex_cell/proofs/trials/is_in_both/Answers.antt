use Rattle.convex_cell.proofs.Ranges.{on_true}
use Rattle.convex_cell.proofs.Middles.{point_at}
use Rattle.convex_cell.proofs.trials.is_in_both.Goals as goal

pub returns : goal.returns
returns c = on_true c.all_hold_at-2.result _ _
    (λ all. point_at c.args.at c.args.first.now c.args.second.now all c.if-not-all_hold_at.ensures) c.all_hold_at-2.ensures

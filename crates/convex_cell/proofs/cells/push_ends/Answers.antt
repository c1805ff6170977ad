use Rattle.std.proofs.Common.{◌∙◌}
use Rattle.convex_cell.proofs.Flats.{begins_with}
use Rattle.convex_cell.proofs.cells.push_ends.Goals as goal

pub returns-in_err-push-clause-begins : goal.returns-in_err-push-clause-begins
returns-in_err-push-clause-begins c = begins_with c.args.ends.now.items _ _ (c.in_err-push.ensures.items ∙ c.loop-end.invariant)

use Rattle.std.proofs.Common.{subst}
use Rattle.error_store.specs.Frames.{LosesRule}
use Rattle.error_store.specs.Pairs.{all_entries}
use Rattle.error_store.proofs.rule_frames.drop_rule_frames.Goals as goal

pub returns-in-Err : goal.returns-in-Err
returns-in-Err c = subst (λ ps. LosesRule c.args.rule (all_entries c.args.runs.now) ps c.drop_each.new.index) c.in-Err.ensures.err c.drop_each.ensures

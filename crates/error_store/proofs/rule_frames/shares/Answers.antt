use Rattle.std.proofs.lemmas.Bool.{false≢true}
use Rattle.error_store.proofs.Sharing.{none_of_rule, all_of_other}
use Rattle.error_store.proofs.rule_frames.shares.Goals as goal

pub returns-then-pair-rule : goal.returns-then-pair-rule
returns-then-pair-rule c = (
  λ t. absurd (false≢true t),
  λ s. absurd (none_of_rule c.args.rule c.args.pair c.args.run.now c.args.frame.now c.if-pair-rule.true c.requires s),
)

pub returns : goal.returns
returns c = rw (all_of_other c.args.rule c.args.pair c.args.run.now c.if-pair-rule.false c.requires) c.has_frame.ensures

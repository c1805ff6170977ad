use Rattle.error_store.specs.Pairs.{all_entries}
use Rattle.error_store.proofs.Dropping.{none_left, others_left}
use Rattle.error_store.proofs.errors.Errors.drop_rule.Goals as goal

pub returns-clause-gone : goal.returns-clause-gone
returns-clause-gone c = λ a b. rw c.drop_under.ensures.left (none_left c.args.rule (all_entries c.self.inside.runs) a b)

pub returns-clause-kept : goal.returns-clause-kept
returns-clause-kept c = λ k a b d. rw (c.drop_under.ensures.left, ← c.self.view_is)
    (others_left c.args.rule (all_entries c.self.inside.runs) k a b d)

pub returns-clause-ascending : goal.returns-clause-ascending
returns-clause-ascending c = c.drop_under.ensures.ascending

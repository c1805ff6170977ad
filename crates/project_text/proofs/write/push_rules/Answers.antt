use Rattle.std.proofs.Common.{refl}
use Rattle.std.proofs.lemmas.Option.{slice_get_read}
use Rattle.project_text.specs.Pushed.{rule_text}
use Rattle.text_out.proofs.Pushing.{said_more}
use Rattle.project_text.proofs.write.push_rules.Goals as goal

pub loop-rule-preserved : goal.loop-rule-preserved
loop-rule-preserved c =
    said_more (rule_text c.args.store.now.classes) _ _ _ _ _ _ (slice_get_read _ _ _ _ refl c.loop-rule-test.true c.rule-item.is)
    c.loop-rule.invariant c.in_ok-push_rule_line.ensures

use Rattle.project_terms.specs.Records.{HasSmallSides}
use Rattle.sound_check.proofs.Pairs.{every_more}
use Rattle.topo_core.proofs.data.rules_law.Goals as goal

pub loop-rule-preserved : goal.loop-rule-preserved
loop-rule-preserved c = every_more HasSmallSides c.args.rules.now c.loop-rule.rule-index c.rule-item.result c.loop-rule-test.true
    c.rule-item.is c.loop-rule.invariant c.rule_law.ensures

use Rattle.std.proofs.Common.{◌∙◌}
use Rattle.validation_laws.proofs.Validating.{parts_kept_valid, parts_kept_sound, parts_kept_settled}
use Rattle.validation.specs.Projects.{with_parts}
use Rattle.topology_terms.specs.Counts.{judged_of}
use Rattle.validation_laws.proofs.Counting.{not_raised}
use Rattle.grid_index.proofs.Nodes.{on_err}
use Rattle.validation.specs.Asked.{dirty_parts}
use Rattle.validation.proofs.Asking.{asked_before, asked_none}
use Rattle.validation.proofs.window.validate_counted.Goals as goal

pub returns-in-Ok-clause-step : goal.returns-in-Ok-clause-step
returns-in-Ok-clause-step g c = λ p h. c.in-Ok.ensures.step p c.args.dirt.now c.into_left.result h
    (c.met.ensures ∙ c.in_ok-cut.ensures.parts.met) (c.into_left.ensures ∙ c.in_ok-cut.ensures.ok)

pub returns-in-Ok-clause-valid : goal.returns-in-Ok-clause-valid
returns-in-Ok-clause-valid g c = λ p h v. parts_kept_valid g.R.RuleSet.meaning g.met.R.RuleSet.right c.args.window.now p
    (with_parts p c.into_left.result c.renew.new.errors) (returns-in-Ok-clause-step g c p h) v (rw h.features c.order_law.ensures.features)

pub returns-in-Ok-clause-sound : goal.returns-in-Ok-clause-sound
returns-in-Ok-clause-sound g c = λ p h v s. parts_kept_sound g.R.RuleSet.meaning g.met.R.RuleSet.laws g.met.R.RuleSet.right c.args.window.now p
    (with_parts p c.into_left.result c.renew.new.errors) (returns-in-Ok-clause-step g c p h) v (rw h.features c.order_law.ensures.features) s

pub returns-in-Ok-clause-settled : goal.returns-in-Ok-clause-settled
returns-in-Ok-clause-settled g c = λ p h v s. parts_kept_settled g.R.RuleSet.meaning g.met.R.RuleSet.laws g.met.R.RuleSet.right
    c.args.window.now p (with_parts p c.into_left.result c.renew.new.errors) (returns-in-Ok-clause-step g c p h) v
    (rw h.features c.order_law.ensures.features) s

pub returns-in-Ok-clause-judged : goal.returns-in-Ok-clause-judged
returns-in-Ok-clause-judged g c = λ p h. c.in-Ok.ensures.judged p c.args.dirt.now h (c.met.ensures ∙ c.in_ok-cut.ensures.parts.met)

pub returns-in-Err-clause-stopped : goal.returns-in-Err-clause-stopped
returns-in-Err-clause-stopped g c = λ p h. c.in-Err.ensures.stopped p c.args.dirt.now h (c.met.ensures ∙ c.in_ok-cut.ensures.parts.met)

pub returns-in_err-cut-clause-stopped : goal.returns-in_err-cut-clause-stopped
returns-in_err-cut-clause-stopped g c = on_err c.from_residual.result _ (λ p h fs those. not_raised c.args.work.now.judged
    (judged_of c.args.ruled.now.in_force fs))

pub returns-in-Ok-clause-asked : goal.returns-in-Ok-clause-asked
returns-in-Ok-clause-asked g c = λ p h. c.renew.ensures.asked p c.args.dirt.now h (c.met.ensures ∙ c.in_ok-cut.ensures.parts.met)

pub returns-in-Err-clause-asked : goal.returns-in-Err-clause-asked
returns-in-Err-clause-asked g c = λ p h. c.renew.ensures.asked p c.args.dirt.now h (c.met.ensures ∙ c.in_ok-cut.ensures.parts.met)

pub returns-in_err-cut-clause-asked : goal.returns-in_err-cut-clause-asked
returns-in_err-cut-clause-asked g c = λ p h fs those. asked_before c.args.ruled.now (dirty_parts c.args.dirt.now c.args.window.now) fs
    (g.M.Meter.taken c.args.feature_meter.now) (g.M.Meter.taken c.args.feature_meter.now) (asked_none
    (dirty_parts c.args.dirt.now c.args.window.now) c.args.ruled.now.placed (g.M.Meter.taken c.args.feature_meter.now))

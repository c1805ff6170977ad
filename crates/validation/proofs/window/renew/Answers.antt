use Rattle.validation_laws.specs.Parts.{live_of}
use Rattle.validation_laws.proofs.Judging.{judging_fresh}
use Rattle.topology_terms.specs.Counts.{judged_of}
use Rattle.validation_laws.proofs.Counting.{not_raised}
use Rattle.grid_index.proofs.Nodes.{on_err}
use Rattle.std.proofs.lemmas.Result.{on_ok_weaker}
use Rattle.validation.specs.Asked.{dirty_parts}
use Rattle.validation.proofs.Asking.{asked_selected, asked_before, asked_met}
use Rattle.validation.proofs.Settled.{met_of, validated, selected_live, judged_upto, le_of_eq}
use Rattle.validation.proofs.window.renew.Goals as goal

pub replace-requires-clause-new : goal.replace-requires-clause-new
replace-requires-clause-new g c = judging_fresh g.R.RuleSet.meaning c.args.ruled.now.features c.in_ok-selected.selected
    c.args.ruled.now.in_force c.in_ok-fresh.fresh.items c.in_ok-fresh.ensures.judging

pub returns-clause-step : goal.returns-clause-step
returns-clause-step g c = on_ok_weaker c.replace.result (λ r p d new h e k.
    validated g.R.RuleSet.meaning c.args.window.now p c.args.ruled.now d new
    c.args.errors.now c.replace.new.self c.in_ok-fresh.fresh.items c.in_ok-selected.selected
    h c.order_law.ensures.rules c.in_ok-selected.ensures.rising
    (λ a. c.in_ok-selected.ensures.chosen p h.features (met_of p d c.args.met.now c.args.window.now h.dirt e) h.entries a)
    c.in_ok-fresh.ensures.judging r k) c.replace.ensures.replaced

pub returns-clause-judged : goal.returns-clause-judged
returns-clause-judged g c = on_ok_weaker c.replace.result (λ r p d h e. (
  live_of c.args.ruled.now.features c.in_ok-selected.selected,
  selected_live c.args.window.now p c.args.ruled.now.features c.in_ok-selected.selected c.order_law.ensures.features
      c.in_ok-selected.ensures.rising
      (λ a. c.in_ok-selected.ensures.chosen p h.features (met_of p d c.args.met.now c.args.window.now h.dirt e) h.entries a),
  c.in_ok-fresh.ensures.judged,
)) c.replace.ensures.replaced

pub returns-clause-stopped : goal.returns-clause-stopped
returns-clause-stopped g c = on_err c.replace.result _ (λ p d h e fs those.
    judged_upto c.args.window.now p c.args.ruled.now.in_force c.args.ruled.now.features c.in_ok-selected.selected c.args.work.now.judged _
    c.order_law.ensures.features c.in_ok-selected.ensures.rising
    (λ a. c.in_ok-selected.ensures.chosen p h.features (met_of p d c.args.met.now c.args.window.now h.dirt e) h.entries a)
    (le_of_eq _ _ c.in_ok-fresh.ensures.judged) fs those)

pub returns-in_err-selected-clause-stopped : goal.returns-in_err-selected-clause-stopped
returns-in_err-selected-clause-stopped g c = on_err c.from_residual.result _ (λ p d h e fs those. not_raised c.args.work.now.judged
    (judged_of c.args.ruled.now.in_force fs))

pub returns-in_err-fresh-clause-stopped : goal.returns-in_err-fresh-clause-stopped
returns-in_err-fresh-clause-stopped g c = on_err c.from_residual-in_err-fresh.result _ (λ p d h e fs those.
    judged_upto c.args.window.now p c.args.ruled.now.in_force c.args.ruled.now.features c.in_ok-selected.selected c.args.work.now.judged _
    c.order_law.ensures.features c.in_ok-selected.ensures.rising
    (λ a. c.in_ok-selected.ensures.chosen p h.features (met_of p d c.args.met.now c.args.window.now h.dirt e) h.entries a)
    c.in_err-fresh.ensures.stopped fs those)

pub returns-clause-asked : goal.returns-clause-asked
returns-clause-asked g c = λ p d h e. asked_selected c.args.ruled.now (dirty_parts d c.args.window.now) c.args.window.now p c.in_ok-selected.selected
    (g.M.Meter.taken c.args.feature_meter.now) (g.M.Meter.taken c.select.new.feature_meter) (g.M.Meter.taken c.rejudge.new.meter)
    c.order_law.ensures.features c.in_ok-selected.ensures.rising
    (λ a. c.in_ok-selected.ensures.chosen p h.features (met_of p d c.args.met.now c.args.window.now h.dirt e) h.entries a)
    (asked_met d c.args.met.now c.args.window.now c.args.ruled.now.placed (g.M.Meter.taken c.args.feature_meter.now)
    (g.M.Meter.taken c.select.new.feature_meter) e c.select.ensures.asked)
    c.rejudge.ensures.steps

pub returns-in_err-fresh-clause-asked : goal.returns-in_err-fresh-clause-asked
returns-in_err-fresh-clause-asked g c = λ p d h e. asked_selected c.args.ruled.now (dirty_parts d c.args.window.now) c.args.window.now p c.in_ok-selected.selected
    (g.M.Meter.taken c.args.feature_meter.now) (g.M.Meter.taken c.select.new.feature_meter) (g.M.Meter.taken c.rejudge.new.meter)
    c.order_law.ensures.features c.in_ok-selected.ensures.rising
    (λ a. c.in_ok-selected.ensures.chosen p h.features (met_of p d c.args.met.now c.args.window.now h.dirt e) h.entries a)
    (asked_met d c.args.met.now c.args.window.now c.args.ruled.now.placed (g.M.Meter.taken c.args.feature_meter.now)
    (g.M.Meter.taken c.select.new.feature_meter) e c.select.ensures.asked)
    c.rejudge.ensures.steps

pub returns-in_err-selected-clause-asked : goal.returns-in_err-selected-clause-asked
returns-in_err-selected-clause-asked g c = λ p d h e fs those. asked_before c.args.ruled.now (dirty_parts d c.args.window.now) fs
    (g.M.Meter.taken c.args.feature_meter.now) (g.M.Meter.taken c.select.new.feature_meter)
    (asked_met d c.args.met.now c.args.window.now c.args.ruled.now.placed (g.M.Meter.taken c.args.feature_meter.now)
    (g.M.Meter.taken c.select.new.feature_meter) e c.select.ensures.asked)

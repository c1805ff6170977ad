use Rattle.std.proofs.Common.{◌∙◌, sym}
use Rattle.std.proofs.lemmas.Result.{on_ok_weaker}
use Rattle.validation_laws.proofs.Counting.{raised_none}
use Rattle.validation.specs.Parted.{rules_of}
use Rattle.validation.proofs.Asking.{live_steps}
use Rattle.validation.proofs.Parted.{all_seen, grown_idle, judged_idle}
use Rattle.validation.proofs.Enough.{shown_enough, shown_subject, shown_own, shown_fits}
use Rattle.validation.proofs.parts.judge_live_by_each.Goals as goal

pub returns-then-not-judges_any-clause-grown : goal.returns-then-not-judges_any-clause-grown
returns-then-not-judges_any-clause-grown g c = grown_idle g.R.RuleSet.meaning g.met.R.RuleSet.views c.args.features.now.features c.args.f.now
    c.args.parts.now c.requires.live (sym c.judges_any.ensures ∙ c.if-not-judges_any.true)

pub returns-then-not-judges_any-clause-judged : goal.returns-then-not-judges_any-clause-judged
returns-then-not-judges_any-clause-judged g c =
    rw (judged_idle c.args.f.now c.args.parts.now (sym c.judges_any.ensures ∙ c.if-not-judges_any.true)) (sym (raised_none c.args.work.now.judged))

pub judge_shown_by_each-requires-clause-live : goal.judge_shown_by_each-requires-clause-live
judge_shown_by_each-requires-clause-live g c = shown_subject (rules_of c.args.parts.now) c.args.features.now.features c.in_ok-view.view c.args.f.now
    c.requires.live c.in_ok-view.ensures.view

pub judge_shown_by_each-requires-clause-near : goal.judge_shown_by_each-requires-clause-near
judge_shown_by_each-requires-clause-near g c = shown_own (rules_of c.args.parts.now) c.args.features.now.features c.in_ok-view.view c.args.f.now
    c.in_ok-view.ensures.view

pub judge_shown_by_each-requires-clause-fits : goal.judge_shown_by_each-requires-clause-fits
judge_shown_by_each-requires-clause-fits g c = shown_fits g.R.RuleSet.meaning g.met.R.RuleSet.views (rules_of c.args.parts.now)
    (rules_of c.args.parts.now) c.args.features.now.features c.in_ok-view.view c.args.f.now c.in_ok-view.ensures.view c.requires.fits

pub returns-clause-grown : goal.returns-clause-grown
returns-clause-grown g c = on_ok_weaker c.judge_shown_by_each.result
    (λ h. all_seen g.R.RuleSet.meaning c.args.features.now.features c.in_ok-view.view c.args.f.now c.requires.live c.args.parts.now
    c.judge_shown_by_each.new.parts (shown_enough g.R.RuleSet.meaning g.met.R.RuleSet.laws g.met.R.RuleSet.views g.met.R.RuleSet.right
    c.args.features.now.features c.in_ok-view.view c.args.f.now c.requires.ascending c.requires.live (rules_of c.args.parts.now)
    c.in_ok-view.ensures.view c.requires.fits) h)
    c.judge_shown_by_each.ensures.grown

pub returns-in_err-view-clause-steps : goal.returns-in_err-view-clause-steps
returns-in_err-view-clause-steps g c s = live_steps s c.args.f.now c.args.parts.now c.args.features.now.placed
    (g.M.Meter.taken c.args.meter.now) (g.M.Meter.taken c.view_for.new.meter) (sym c.judges_any.ensures ∙ c.if-not-judges_any.false)
    (c.view_for.ensures.steps s)

pub returns-clause-steps : goal.returns-clause-steps
returns-clause-steps g c s = live_steps s c.args.f.now c.args.parts.now c.args.features.now.placed
    (g.M.Meter.taken c.args.meter.now) (g.M.Meter.taken c.view_for.new.meter) (sym c.judges_any.ensures ∙ c.if-not-judges_any.false)
    (c.view_for.ensures.steps s)

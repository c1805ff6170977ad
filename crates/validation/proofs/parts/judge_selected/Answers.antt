use Rattle.std.proofs.Common.{◌≡◌, ◌<◌, ◌+◌, ◌∙◌, refl, sym, length, get_or, arith}
use Rattle.std.proofs.lemmas.List.{get_or_default}
use Rattle.grid_index.proofs.Nodes.{on_err}
use Rattle.validation_laws.proofs.Counting.{raised_none}
use Rattle.validation.specs.Parted.{rules_of}
use Rattle.validation.proofs.Asking.{subject_steps, subjects_within}
use Rattle.validation.proofs.Parted.{judged_nothing, done_more, rules_kept, judged_subject_more, judged_subject_within}
use Rattle.validation.proofs.parts.judge_selected.Goals as goal

pub loop-i-init : goal.loop-i-init
loop-i-init g c = (
  c.requires.new,
  refl,
  rw (judged_nothing (rules_of c.args.parts.now)) (sym (raised_none c.args.work.now.judged)),
  omega arith,
  λ s. omega arith,
)

pub judge_by_each-requires-clause-fits : goal.judge_by_each-requires-clause-fits
judge_by_each-requires-clause-fits g c = rw c.loop-i.invariant.1 c.requires.fits

pub returns-in_err-judge_by_each-clause-stopped : goal.returns-in_err-judge_by_each-clause-stopped
returns-in_err-judge_by_each-clause-stopped g c =
    let s = c.args.selected.now in
    let i = c.loop-i.i in
    let a = c.at-subject.result in
    let l : i < length s = omega (arith, c.len-i-end.ensures.value, c.loop-i-test.true) in
    let e : a ≡ get_or s i a = c.at-subject.ensures ∙ get_or_default s i 0 a l in
    on_err c.from_residual.result _ (judged_subject_within (rules_of c.args.parts.now) c.args.features.now.features s i a c.args.work.now.judged
    c.loop-i.work.judged c.judge_by_each.new.work.judged l e c.loop-i.invariant.2 (rw c.loop-i.invariant.1 at c.in_err-judge_by_each.ensures.stopped))

pub loop-i-preserved : goal.loop-i-preserved
loop-i-preserved g c =
    let M = g.R.RuleSet.meaning in
    let F = c.args.features.now.features in
    let s = c.args.selected.now in
    let i = c.loop-i.i in
    let a = c.at-subject.result in
    let l : i < length s = omega (arith, c.len-i-end.ensures.value, c.loop-i-test.true) in
    let e : a ≡ get_or s i a = c.at-subject.ensures ∙ get_or_default s i 0 a l in
    let grown = c.in_ok-judge_by_each.ensures.grown in (
      done_more M F s i a c.loop-i.parts c.judge_by_each.new.parts l e c.loop-i.invariant.0 grown,
      rules_kept M F a c.loop-i.parts c.judge_by_each.new.parts grown ∙ c.loop-i.invariant.1,
      judged_subject_more (rules_of c.args.parts.now) F s i a c.args.work.now.judged c.loop-i.work.judged c.judge_by_each.new.work.judged l e
          c.loop-i.invariant.2 (rw c.loop-i.invariant.1 at c.in_ok-judge_by_each.ensures.judged),
      omega (arith, c.loop-i.invariant.3, c.judge_by_each.ensures.rises),
      λ k. subject_steps k (rules_of c.args.parts.now) F s c.args.features.now.placed i a (g.M.Meter.taken c.args.meter.now)
          (g.M.Meter.taken c.loop-i.meter) (g.M.Meter.taken c.judge_by_each.new.meter) l e (c.loop-i.invariant.4 k)
          (rw c.loop-i.invariant.1 at (c.judge_by_each.ensures.steps k)),
    )

pub returns-in_err-judge_by_each-clause-steps : goal.returns-in_err-judge_by_each-clause-steps
returns-in_err-judge_by_each-clause-steps g c k =
    let F = c.args.features.now.features in
    let s = c.args.selected.now in
    let i = c.loop-i.i in
    let a = c.at-subject.result in
    let l : i < length s = omega (arith, c.len-i-end.ensures.value, c.loop-i-test.true) in
    let e : a ≡ get_or s i a = c.at-subject.ensures ∙ get_or_default s i 0 a l in
    subjects_within k (rules_of c.args.parts.now) F s c.args.features.now.placed (i + 1) (g.M.Meter.taken c.args.meter.now)
    (g.M.Meter.taken c.judge_by_each.new.meter)
    (subject_steps k (rules_of c.args.parts.now) F s c.args.features.now.placed i a (g.M.Meter.taken c.args.meter.now)
    (g.M.Meter.taken c.loop-i.meter) (g.M.Meter.taken c.judge_by_each.new.meter) l e (c.loop-i.invariant.4 k)
    (rw c.loop-i.invariant.1 at (c.judge_by_each.ensures.steps k)))

pub returns-clause-steps : goal.returns-clause-steps
returns-clause-steps g c k = subjects_within k (rules_of c.args.parts.now) c.args.features.now.features c.args.selected.now
    c.args.features.now.placed c.loop-i.i (g.M.Meter.taken c.args.meter.now) (g.M.Meter.taken c.loop-i.meter) (c.loop-i.invariant.4 k)

use Rattle.std.proofs.Common.{◌≡◌, ◌∙◌, ℕ, List, [], ◌∷◌, refl, ap, sym, subst, length, arith}
use Rattle.std.proofs.lemmas.Result.{IfOk-weaker}
use Rattle.shape.proofs.Changed.{written}
use Rattle.validation_laws.specs.Parts.{IsJudging}
use Rattle.validation_laws.proofs.Counting.{raised_none}
use Rattle.validation.specs.Parted.{rules_of, entries_of}
use Rattle.validation.proofs.Parted.{length_rules, rules_empty, done_empty, judging_none, judging_parts, judged_nothing}
use Rattle.validation.proofs.parts.judge_all.Goals as goal

pub judge_selected-requires-clause-fits : goal.judge_selected-requires-clause-fits
judge_selected-requires-clause-fits g c = rw (c.deref_mut.ensures.value, c.in_ok-parts.ensures, rules_empty c.args.in_force.now) c.requires.fits

pub judge_selected-requires-clause-new : goal.judge_selected-requires-clause-new
judge_selected-requires-clause-new g c = rw (c.deref_mut.ensures.value, c.in_ok-parts.ensures) (done_empty g.R.RuleSet.meaning
    c.args.features.now.features c.args.in_force.now)

-- nothing is selected
none : (s : List ℕ) → length s ≡ 0 → s ≡ []
none [] e = refl
none (a ∷ s) e = absurd (omega (arith, e))

pub returns-then-len-eq0-clause-judging : goal.returns-then-len-eq0-clause-judging
returns-then-len-eq0-clause-judging g c =
    let e = none c.args.selected.now (omega (arith, c.len.ensures.value, c.if-len-eq0.true)) in
    rw (e, c.new.ensures.items) (judging_none g.R.RuleSet.meaning c.args.features.now.features c.args.in_force.now)

pub returns-then-len-eq0-clause-judged : goal.returns-then-len-eq0-clause-judged
returns-then-len-eq0-clause-judged g c =
    let e = none c.args.selected.now (omega (arith, c.len.ensures.value, c.if-len-eq0.true)) in
    rw (e, judged_nothing c.args.in_force.now) (sym (raised_none c.args.work.now.judged))

pub returns-clause-judging : goal.returns-clause-judging
returns-clause-judging g c =
    let M = g.R.RuleSet.meaning in
    let F = c.args.features.now.features in
    let s = c.args.selected.now in
    let new = c.judge_selected.new.parts in
    let was = c.deref_mut.ensures.value in
    let kept = c.in_ok-judge_selected.ensures.rules in
    let rules : rules_of new ≡ c.args.in_force.now = kept ∙ (ap rules_of (was ∙ c.in_ok-parts.ensures) ∙ rules_empty c.args.in_force.now) in
    let same : length new ≡ length c.in_ok-parts.parts.items = omega (
      arith,
      ap (λ rs. length rs) (kept ∙ ap rules_of was),
      length_rules new,
      length_rules c.in_ok-parts.parts.items,
    ) in
    let all = written c.in_ok-parts.parts.len new c.in_ok-parts.parts.items same (omega (arith, c.in_ok-parts.parts.ok)) in
    IfOk-weaker c.entries_in.result _ (λ es. IsJudging M F c.args.in_force.now s es.items)
    (λ es h. rw (rw all at h) (subst (λ rs. IsJudging M F rs s (entries_of new)) rules (judging_parts M F s new
    c.in_ok-judge_selected.ensures.done)))
    c.entries_in.ensures

pub returns-clause-steps : goal.returns-clause-steps
returns-clause-steps g c =
    rw (c.deref_mut.ensures.value, c.in_ok-parts.ensures, rules_empty c.args.in_force.now) at c.judge_selected.ensures.steps

pub returns-in_err-judge_selected-clause-steps : goal.returns-in_err-judge_selected-clause-steps
returns-in_err-judge_selected-clause-steps g c =
    rw (c.deref_mut.ensures.value, c.in_ok-parts.ensures, rules_empty c.args.in_force.now) at c.judge_selected.ensures.steps

use Rattle.std.proofs.Common.{◌≡◌, ◌∙◌, ap, subst, length, arith}
use Rattle.shape.proofs.Changed.{written}
use Rattle.validation.specs.Parted.{AreGrown, rules_of}
use Rattle.validation.proofs.Parted.{length_rules, rules_kept, rules_empty, parts_grown}
use Rattle.validation.proofs.parts.judge_subject.Goals as goal

pub judge_by_each-requires-clause-fits : goal.judge_by_each-requires-clause-fits
judge_by_each-requires-clause-fits g c = rw (c.deref_mut.ensures.value, c.in_ok-parts.ensures, rules_empty c.args.in_force.now) c.requires.fits

pub returns-clause-parts : goal.returns-clause-parts
returns-clause-parts g c =
    let M = g.R.RuleSet.meaning in
    let F = c.args.features.now.features in
    let a = c.args.subject in
    let new = c.judge_by_each.new.parts in
    let was = c.deref_mut.ensures.value in
    let grown = c.in_ok-judge_by_each.ensures.grown in
    let kept = rules_kept M F a c.deref_mut.result.now new grown in
    let same : length new ≡ length c.in_ok-parts.parts.items = omega (
      arith,
      ap (λ rs. length rs) (kept ∙ ap rules_of was),
      length_rules new,
      length_rules c.in_ok-parts.parts.items,
    ) in
    let all = written c.in_ok-parts.parts.len new c.in_ok-parts.parts.items same (omega (arith, c.in_ok-parts.parts.ok)) in
    rw all (parts_grown M F a c.args.in_force.now new (subst (λ ps. AreGrown M F a ps new) (was ∙ c.in_ok-parts.ensures) grown))

pub returns-clause-steps : goal.returns-clause-steps
returns-clause-steps g c =
    rw (c.deref_mut.ensures.value, c.in_ok-parts.ensures, rules_empty c.args.in_force.now) at c.judge_by_each.ensures.steps

pub returns-in_err-judge_by_each-clause-steps : goal.returns-in_err-judge_by_each-clause-steps
returns-in_err-judge_by_each-clause-steps g c =
    rw (c.deref_mut.ensures.value, c.in_ok-parts.ensures, rules_empty c.args.in_force.now) at c.judge_by_each.ensures.steps

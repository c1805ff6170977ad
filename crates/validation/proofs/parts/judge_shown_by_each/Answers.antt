use Rattle.std.proofs.Common.{◌<◌, ◌∷◌, [], subst, sym, length, arith}
use Rattle.topology_terms.specs.Project.{InForce}
use Rattle.plane_terms.proofs.ListLemmas.{every_at}
use Rattle.grid_index.proofs.Nodes.{on_err}
use Rattle.validation_laws.proofs.Counting.{judged_rule_more, judged_rule_within}
use Rattle.validation.specs.Parted.{RulePart, rules_of}
use Rattle.validation.proofs.Parted.{length_rules, rule_there, grown_more}
use Rattle.validation.proofs.parts.judge_shown_by_each.Goals as goal

pub judge-requires-clause-fits : goal.judge-requires-clause-fits
judge-requires-clause-fits g c =
    let M = g.R.RuleSet.meaning in
    let V = c.args.view.now in
    let old = c.args.parts.now in
    let i = c.loop-part.part-index in
    let p = c.part-item.result in
    let there = rule_there M V c.args.f.now.handle i old c.loop-part.parts p c.loop-part-test.true c.part-item.is c.loop-part.invariant.0 in
    let short : i < length (rules_of old) = omega (arith, length_rules old, c.loop-part-test.true) in
    subst (λ (x : RulePart). M.Fits x.rule.row V) c.part-item.is (subst (λ (q : InForce). M.Fits q.row V) (sym there)
    (every_at (λ (q : InForce). M.Fits q.row V) (rules_of old) i p.rule c.requires.fits short))

pub returns-in_err-judge-clause-stopped : goal.returns-in_err-judge-clause-stopped
returns-in_err-judge-clause-stopped g c =
    let old = c.args.parts.now in
    let i = c.loop-part.part-index in
    let p = c.part-item.result in
    let there = rule_there g.R.RuleSet.meaning c.args.view.now c.args.f.now.handle i old c.loop-part.parts p c.loop-part-test.true
    c.part-item.is c.loop-part.invariant.0 in
    let short : i < length (rules_of old) = omega (arith, length_rules old, c.loop-part-test.true) in
    on_err c.from_residual.result _ (judged_rule_within (c.args.f.now ∷ []) (rules_of old) i p.rule c.args.work.now.judged c.loop-part.work.judged
    c.judge.new.work.judged short there c.loop-part.invariant.1 (rw (← c.part-item.is) at c.in_err-judge.ensures.stopped))

pub loop-part-preserved : goal.loop-part-preserved
loop-part-preserved g c =
    let M = g.R.RuleSet.meaning in
    let V = c.args.view.now in
    let a = c.args.f.now.handle in
    let old = c.args.parts.now in
    let i = c.loop-part.part-index in
    let p = c.part-item.result in
    let there = rule_there M V a i old c.loop-part.parts p c.loop-part-test.true c.part-item.is c.loop-part.invariant.0 in
    let short : i < length (rules_of old) = omega (arith, length_rules old, c.loop-part-test.true) in (
      grown_more M V a i old c.loop-part.parts p c.judge.new.self c.loop-part-test.true
          (omega (arith, c.loop-part-test.true, c.loop-part.auto.parts)) c.part-item.is
          (rw (← c.part-item.is) at c.in_ok-judge.ensures.grown) c.loop-part.invariant.0,
      judged_rule_more (c.args.f.now ∷ []) (rules_of old) i p.rule c.args.work.now.judged c.loop-part.work.judged c.judge.new.work.judged short there
          c.loop-part.invariant.1 (rw (← c.part-item.is) at c.in_ok-judge.ensures.judged),
    )

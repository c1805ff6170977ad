use Rattle.std.proofs.Common.{◌≡◌, sym, subst, Some}
use Rattle.std.proofs.lemmas.Result.{on_ok_weaker}
use Rattle.topology_terms.specs.Feature.{feature_at}
use Rattle.sound_laws.proofs.FeatureLists.{handle_of}
use Rattle.validation_laws.proofs.Counting.{raised_none}
use Rattle.validation.specs.Parted.{AreGrown, rules_of}
use Rattle.validation.proofs.Parted.{grown_dead, judged_nothing}
use Rattle.validation.proofs.parts.judge_by_each.Goals as goal

pub judge_live_by_each-requires-clause-live : goal.judge_live_by_each-requires-clause-live
judge_live_by_each-requires-clause-live g c =
    let F = c.args.features.now.features in
    let f = c.in-Some.f.now in
    subst (λ h. feature_at F h ≡ Some f) (sym (handle_of F c.args.subject f c.in-Some.ensures)) c.in-Some.ensures

pub returns-in-Some-clause-grown : goal.returns-in-Some-clause-grown
returns-in-Some-clause-grown g c =
    let F = c.args.features.now.features in
    let own = handle_of F c.args.subject c.in-Some.f.now c.in-Some.ensures in
    on_ok_weaker c.judge_live_by_each.result
    (λ h. subst (λ a. AreGrown g.R.RuleSet.meaning F a c.args.parts.now c.judge_live_by_each.new.parts) own h)
    c.judge_live_by_each.ensures.grown

pub returns-in-None-clause-grown : goal.returns-in-None-clause-grown
returns-in-None-clause-grown g c = grown_dead g.R.RuleSet.meaning c.args.features.now.features c.args.subject c.args.parts.now c.in-None.ensures

pub returns-in-None-clause-judged : goal.returns-in-None-clause-judged
returns-in-None-clause-judged g c =
    rw (c.in-None.ensures, judged_nothing (rules_of c.args.parts.now)) (sym (raised_none c.args.work.now.judged))

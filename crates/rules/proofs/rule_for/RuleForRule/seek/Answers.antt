use Rattle.std.proofs.Common.{subst, sym}
use Rattle.std.proofs.lemmas.Result.{IfOk-weaker}
use Rattle.topology_terms.specs.Broken.{Row}
use Rattle.topology_terms.specs.Plans.{IsCutting}
use Rattle.rule_core.specs.Shown.{IsShown}
use Rattle.rules.proofs.Shown.{seen_cut}
use Rattle.rules.proofs.rule_for.RuleForRule.seek.Goals as goal

pub returns-clause-cut : goal.returns-clause-cut
returns-clause-cut g c =
    let row = c.self.inside.row in
    let V = c.args.view.now in
    let a = c.args.subject in
    let shown : IsShown row V a = subst (λ (r : Row). IsShown r V a) (sym c.self.view_is) c.requires.shown in
    IfOk-weaker c.cut.result _ (λ xs. IsCutting c.args.self.now V a xs)
    (λ xs h. subst (λ (r : Row). IsCutting r V a xs) c.self.view_is
    (seen_cut g.R.RuleBody.kind row V a c.subject.result.now c.self.inside.of_kind shown c.subject.ensures xs h)) c.cut.ensures.cut

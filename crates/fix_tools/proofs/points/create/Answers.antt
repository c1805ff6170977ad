use Rattle.std.proofs.Common.{◌≡◌, List, Some, sym, subst, ◌∙◌}
use Rattle.topology_terms.specs.Feature.{Feature, feature_at}
use Rattle.topology_terms.specs.Project.{InForce, rule_at}
use Rattle.fix_tools.proofs.Creating.{create_holds}
use Rattle.fix_tools.proofs.points.create.Goals as goal

pub returns-clause-fixed : goal.returns-clause-fixed
returns-clause-fixed g c = λ row f r live G after.
    let F = c.args.topology.now.features in
    let subject = c.in-Some-get.feature.now in
    create_holds row c.in-Some.row F c.in_ok-view.view f subject c.args.handle c.args.at c.args.topology.now.next c.in_ok-point_plan.field-0 G
    (sym (subst (λ (rs : List InForce). rule_at rs c.args.rule ≡ Some c.in-Some.row) c.rules.ensures c.in-Some.ensures) ∙ r)
    (sym (subst (λ (fs : List Feature). feature_at fs c.args.handle ≡ Some subject) c.store.ensures.features c.in-Some-get.ensures) ∙ live)
    live
    (c.in_ok-view.ensures ∙ c.slots.ensures ∙ c.features-features.ensures.value ∙ c.store-2.ensures.features)
    (sym c.may_create.ensures ∙ c.if-not-may_create.false) c.in_ok-point_plan.ensures c.topology_law.ensures.store.given
    c.topology_law.ensures.store.simple after

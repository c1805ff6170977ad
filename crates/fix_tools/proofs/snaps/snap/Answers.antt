use Rattle.std.proofs.Common.{◌≡◌, ℕ, List, Some, sym, subst, ◌∙◌}
use Rattle.std.proofs.lemmas.Result.{IfOk-weaker}
use Rattle.plane_terms.specs.Shape.{IsShape}
use Rattle.topology_terms.specs.Feature.{Feature, feature_at}
use Rattle.topology_terms.specs.Project.{InForce, rule_at}
use Rattle.fix_terms.specs.Snap.{snapped, snapped_shape}
use Rattle.sound_laws.proofs.FeatureLists.{handle_of}
use Rattle.fix_terms.specs.Plans.{Edit, IsPossible}
use Rattle.fix_tools.proofs.Possible.{put_possible}
use Rattle.fix_tools.proofs.Snapping.{snap_holds, snapped_line}
use Rattle.fix_tools.proofs.snaps.snap.Goals as goal

pub returns-clause-fixed : goal.returns-clause-fixed
returns-clause-fixed g c =
    let F = c.args.topology.now.features in
    let subject = c.in-Some-get.feature.now in
    IfOk-weaker c.end_plan.result
    (λ plan. (plan ≡ snapped c.args.end c.args.to subject) × IsShape (snapped_shape c.args.end c.args.to subject.shape)) _
    (λ plan made row f r live G after.
    snap_holds row c.in-Some.row F c.in_ok-view.view f subject c.args.handle c.args.end c.args.to c.args.topology.now.next plan G
    (sym (subst (λ (rs : List InForce). rule_at rs c.args.rule ≡ Some c.in-Some.row) c.rules.ensures c.in-Some.ensures) ∙ r)
    (sym (subst (λ (fs : List Feature). feature_at fs c.args.handle ≡ Some subject) c.store.ensures.features c.in-Some-get.ensures) ∙ live)
    live
    (c.in_ok-view.ensures ∙ c.slots.ensures ∙ c.features-features.ensures.value ∙ c.store-2.ensures.features)
    (sym c.may_snap.ensures ∙ c.if-not-may_snap.false) made c.end_plan.ensures.given c.topology_law.ensures.store.ascending
    c.topology_law.ensures.store.simple after)
    c.end_plan.ensures.ready

pub returns-clause-possible : goal.returns-clause-possible
returns-clause-possible g c =
    let p = c.args.topology.now in
    let subject = c.in-Some-get.feature.now in
    let live = subst (λ (fs : List Feature). feature_at fs c.args.handle ≡ Some subject) c.store.ensures.features c.in-Some-get.ensures in
    let line = snapped_line c.in-Some.row c.in_ok-view.view subject c.args.end c.args.to (sym c.may_snap.ensures ∙ c.if-not-may_snap.false) in
    IfOk-weaker c.end_plan.result
    (λ plan. (plan ≡ snapped c.args.end c.args.to subject) × IsShape (snapped_shape c.args.end c.args.to subject.shape)) _
    (λ plan made.
    subst (λ (es : List Edit). IsPossible es p) (sym made.0)
    (put_possible p subject.handle subject (snapped_shape c.args.end c.args.to subject.shape)
    (subst (λ (m : ℕ). feature_at p.features m ≡ Some subject) (sym (handle_of p.features c.args.handle subject live)) live) line))
    c.end_plan.ensures.ready

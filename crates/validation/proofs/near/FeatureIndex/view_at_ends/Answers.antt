use Rattle.std.proofs.Common.{[]}
use Rattle.std.proofs.lemmas.Result.{IfOk-weaker}
use Rattle.topology_terms.specs.Together.{ends}
use Rattle.validation.specs.Ends.{AreAtEnds}
use Rattle.validation.proofs.AtEnds.{ends_filtered}
use Rattle.validation.proofs.near.FeatureIndex.view_at_ends.Goals as goal

pub returns-clause-view : goal.returns-clause-view
returns-clause-view g c =
    let F = c.args.self.now.features in
    let f = c.args.f.now in
    IfOk-weaker c.view_about.result _ (λ v. AreAtEnds F f [] (ends f) v) (λ v h. ends_filtered F v f c.requires.ascending c.requires.live
    c.requires.ends (rw (c.of.ensures.ends, c.shape.ensures) at h)) c.view_about.ensures.view

pub returns-clause-steps : goal.returns-clause-steps
returns-clause-steps g c = rw (← c.shape.ensures, ← c.of.ensures.line) c.view_about.ensures.steps

use Rattle.std.proofs.lemmas.Result.{IfOk-weaker}
use Rattle.validation_laws.specs.Views.{IsView}
use Rattle.validation_laws.proofs.Viewed.{view_filtered}
use Rattle.validation.proofs.near.FeatureIndex.view_of.Goals as goal

pub returns-clause-view : goal.returns-clause-view
returns-clause-view g c = IfOk-weaker c.view_about.result _ (λ v. IsView c.args.self.now.features c.args.f.now v)
    (λ v h. view_filtered c.args.self.now.features v c.args.f.now c.requires (rw (c.env.ensures, c.shape.ensures) at h)) c.view_about.ensures.view

pub returns-clause-steps : goal.returns-clause-steps
returns-clause-steps g c = rw (← c.shape.ensures, ← c.env.ensures) c.view_about.ensures.steps

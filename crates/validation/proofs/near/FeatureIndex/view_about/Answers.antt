use Rattle.std.proofs.Common.{◌≡◌}
use Rattle.std.specs.List.{filter}
use Rattle.std.proofs.lemmas.Result.{IfOk-weaker}
use Rattle.topology_terms.specs.Feature.{Feature, env}
use Rattle.grid_index.specs.Near.{handle_of}
use Rattle.grid_index.proofs.Adding.{once_near}
use Rattle.validation.proofs.Nearby.{view_about}
use Rattle.validation.proofs.near.FeatureIndex.view_about.Goals as goal

pub returns-clause-view : goal.returns-clause-view
returns-clause-view g c =
    let F = c.self.inside.features.now in
    let t = g.A.Aim.touching c.args.aim.now in
    let ps = c.self.inside.index.now in
    let ns = c.once_each.new.found.items in
    let met = once_near handle_of t ps c.add_about.new.found.items ns (rw c.clear.ensures.items at c.in_ok-add_about.ensures.met)
    c.in_ok-once_each.ensures.same in
    rw (← c.self.view_is) (IfOk-weaker c.view_among.result _ (λ v. v ≡ filter (λ (x : Feature). t (env x)) F) (λ v h. view_about F v t
    ps ns (rw (← c.self.view_is) at c.requires) c.self.invariant
    c.in_ok-once_each.ensures.ascending met (rw c.deref.ensures.value at h)) c.view_among.ensures)

pub returns-clause-steps : goal.returns-clause-steps
returns-clause-steps g c = rw (← c.self.view_is) c.add_about.ensures.steps

pub returns-in_err-add_about-clause-steps : goal.returns-in_err-add_about-clause-steps
returns-in_err-add_about-clause-steps g c = rw (← c.self.view_is) c.add_about.ensures.steps

pub returns-in_err-once_each-clause-steps : goal.returns-in_err-once_each-clause-steps
returns-in_err-once_each-clause-steps g c = rw (← c.self.view_is) c.add_about.ensures.steps

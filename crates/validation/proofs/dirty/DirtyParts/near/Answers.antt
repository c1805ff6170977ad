use Rattle.std.proofs.lemmas.Result.{IfOk-weaker}
use Rattle.validation.specs.Placed.{HasNear}
use Rattle.validation.proofs.Asking.{asked_each, asked_once}
use Rattle.validation.proofs.Nearby.{near_joined}
use Rattle.validation.proofs.dirty.DirtyParts.near.Goals as goal

pub returns-in-Some-clause-near : goal.returns-in-Some-clause-near
returns-in-Some-clause-near g c = rw (← c.self.view_is, ← c.rects-parts.ensures) (IfOk-weaker c.query.result _ (λ v. HasNear v.items c.args.index.now
    c.rects-parts.result.now) (λ v h. near_joined c.args.index.now c.rects-parts.result.now c.in-Some.joined v.items c.in-Some.ensures.0.holds h)
    c.query.ensures.near)

pub returns-in-Some-clause-asked : goal.returns-in-Some-clause-asked
returns-in-Some-clause-asked g c = rw (← c.self.view_is, ← c.rects-parts.ensures) (asked_once c.rects-parts.result.now c.in-Some.joined c.args.index.now
    (g.M.Meter.taken c.args.meter.now) (g.M.Meter.taken c.query.new.meter) c.in-Some.ensures.0 c.in-Some.ensures.1
    c.query.ensures.steps)

pub returns-in-None-clause-asked : goal.returns-in-None-clause-asked
returns-in-None-clause-asked g c = rw (← c.self.view_is, ← c.rects-parts.ensures) (asked_each c.rects-parts.result.now c.args.index.now
    (g.M.Meter.taken c.args.meter.now) (g.M.Meter.taken c.near_each.new.meter) c.near_each.ensures.steps)

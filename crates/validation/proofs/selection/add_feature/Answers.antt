use Rattle.std.proofs.Common.{refl}
use Rattle.std.proofs.lemmas.Result.{on_ok_weaker}
use Rattle.plane_terms.specs.Dirt.{MeetsDirt}
use Rattle.topology_terms.specs.Feature.{Feature, feature_at, env}
use Rattle.validation.proofs.Picking.{picked_one, picked_nothing}
use Rattle.validation.proofs.selection.add_feature.Goals as goal

pub returns-in-Some : goal.returns-in-Some
returns-in-Some c = on_ok_weaker c.push_if.result (λ h. picked_one (λ (f : Feature). MeetsDirt c.args.dirty.now (env f))
    (feature_at c.args.features.now c.args.handle) c.in-Some.f.now c.meets.result c.handle.result c.args.found.now.items
    c.push_if.new.found.items c.in-Some.ensures (rw (c.env.ensures, c.shape.ensures) at c.meets.ensures) c.handle.ensures h)
    c.push_if.ensures

pub returns-in-None : goal.returns-in-None
returns-in-None c = picked_nothing (λ (f : Feature). MeetsDirt c.args.dirty.now (env f)) (feature_at c.args.features.now c.args.handle)
    c.args.found.now.items c.args.found.now.items c.in-None.ensures refl

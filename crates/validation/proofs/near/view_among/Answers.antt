use Rattle.std.proofs.Common.{get_or}
use Rattle.std.proofs.lemmas.List.{get_or_default}
use Rattle.topology_terms.specs.Feature.{Feature, env}
use Rattle.validation.proofs.Nearby.{seen_below}
use Rattle.validation.proofs.near.view_among.Goals as goal

pub push-requires : goal.push-requires
push-requires g c =
    let ns = c.args.handles.now in
    let i = c.loop-handle.handle-index in
    let a = get_or ns i 0 in
    seen_below (λ (x : Feature). g.A.Aim.touching c.args.aim.now (env x)) c.args.features.now c.loop-handle.view ns i a c.in-Some.f.now
    c.requires.handles c.loop-handle-test.true (get_or_default ns i 0 a c.loop-handle-test.true) c.in-Some.ensures.live
    c.loop-handle.invariant

use Rattle.std.proofs.Common.{get_or}
use Rattle.std.proofs.lemmas.List.{take_all, get_or_default}
use Rattle.topology_terms.specs.Feature.{Feature, env}
use Rattle.plane_terms.specs.Dirt.{MeetsDirt}
use Rattle.validation_laws.proofs.Selecting.{picked_none}
use Rattle.validation.proofs.Picking.{picked_live}
use Rattle.validation.proofs.selection.add_features.Goals as goal

pub loop-handle-init : goal.loop-handle-init
loop-handle-init c = picked_none (λ (f : Feature). MeetsDirt c.args.dirty.now (env f)) (λ (f : Feature). f.handle) c.args.found.now.items

pub loop-handle-preserved : goal.loop-handle-preserved
loop-handle-preserved c =
    let ns = c.args.handles.now in
    let i = c.loop-handle.handle-index in
    let a = get_or ns i 0 in
    picked_live (λ (f : Feature). MeetsDirt c.args.dirty.now (env f)) c.args.features.now ns i a
    c.args.found.now.items c.loop-handle.found.items c.add_feature.new.found.items c.loop-handle-test.true
    (get_or_default ns i 0 a c.loop-handle-test.true) c.loop-handle.invariant c.in_ok-add_feature.ensures

pub returns : goal.returns
returns c = λ a. rw (take_all c.loop-handle.handle-index c.args.handles.now c.loop-handle-test.false) at (c.loop-handle.invariant a)

use Rattle.std.proofs.Common.{[]}
use Rattle.topology_terms.specs.Feature.{Feature, env}
use Rattle.topology_terms.specs.Entry.{Entry}
use Rattle.plane_terms.specs.Dirt.{MeetsDirt, MeetsPart}
use Rattle.validation_laws.specs.Parts.{live_of}
use Rattle.validation_laws.specs.Picked.{ArePicked}
use Rattle.validation_laws.proofs.Handles.{rising}
use Rattle.validation_laws.proofs.Selecting.{selected_picked}
use Rattle.validation.specs.Asked.{dirty_parts}
use Rattle.validation.proofs.Asking.{asked_moved, asked_none}
use Rattle.validation.proofs.Dirtied.{cover_met, meets_parts, picked_as}
use Rattle.validation.proofs.Picking.{picked_near, dirty_near}
use Rattle.validation.proofs.Framed.{frames_near, picked_among}
use Rattle.validation.proofs.selection.select.Goals as goal

pub returns-clause-rising : goal.returns-clause-rising
returns-clause-rising g c = rw c.of-2.ensures (rising c.once_each.new.found.items c.in_ok-once_each.ensures.ascending)

pub returns-clause-chosen : goal.returns-clause-chosen
returns-clause-chosen g c = λ p ef ed ee a.
    let w = c.args.window.now in
    let early = c.add_features.new.found.items in
    let late = c.add_subjects.new.found.items in
    let meets = meets_parts c.in_ok-dirty.dirty p.dirt w (cover_met c.in_ok-dirty.dirty c.args.met.now p.dirt w ed c.in_ok-dirty.ensures.covers) in
    let dirty : Feature → Type 0 = λ (f : Feature). MeetsDirt c.in_ok-dirty.dirty (env f) in
    let F = c.args.ruled.now.features in
    let enough = dirty_near c.index.result.now F c.in_ok-dirty.dirty c.in_ok-near.near.items c.index.ensures.placed c.in_ok-near.ensures.near in
    let among : ArePicked dirty (λ (f : Feature). f.handle) (live_of F c.in_ok-near.near.items) [] early =
    rw (c.in_ok-found.ensures.items, c.deref.ensures.value, c.features.ensures) at c.in_ok-add_features.ensures in
    let first : ArePicked (λ (f : Feature). MeetsPart p.dirt w (env f)) (λ (f : Feature). f.handle) p.features [] early =
    rw ef (picked_as dirty (λ (f : Feature). MeetsPart p.dirt w (env f)) (λ (f : Feature). f.handle) F [] early
    (λ f. meets (env f)) (picked_near dirty F c.in_ok-near.near.items [] early c.order_law.ensures.features enough among)) in
    let second : ArePicked (λ (e : Entry). MeetsPart p.dirt w e.frame) (λ (e : Entry). e.subject) p.entries early late =
    rw ee (picked_as _ (λ (e : Entry). MeetsPart p.dirt w e.frame) (λ (e : Entry). e.subject) c.args.errors.now early
    late (λ e. meets e.frame) (picked_among (λ (e : Entry). MeetsDirt c.in_ok-dirty.dirty e.frame) c.in_ok-framed.framed.items c.args.errors.now
    early late (frames_near c.frames.result.now c.args.errors.now c.in_ok-dirty.dirty c.in_ok-framed.framed.items c.frames.ensures.framed
    c.in_ok-framed.ensures.near) (rw (c.deref-3.ensures.value, c.in_ok-runs.ensures, c.deref-2.ensures.value) at c.in_ok-add_subjects.ensures))) in
    let chosen = selected_picked p w early late (rw ef c.order_law.ensures.features) (rw ee c.order_law-2.ensures) first second a in
    let once = c.in_ok-once_each.ensures.same a in
    rw c.of-2.ensures ((λ k. chosen.0 (once.0 k)), (λ k. once.1 (chosen.1 k)))

pub returns-clause-asked : goal.returns-clause-asked
returns-clause-asked g c = rw (← c.index.ensures.value) (asked_moved (dirty_parts c.args.met.now c.args.window.now) c.in_ok-dirty.dirty
    c.index.result.now (g.M.Meter.taken c.args.feature_meter.now) (g.M.Meter.taken c.near_of.new.meter) c.in_ok-dirty.ensures.parts
    c.near_of.ensures.asked)

pub returns-in_err-near-clause-asked : goal.returns-in_err-near-clause-asked
returns-in_err-near-clause-asked g c = rw (← c.index.ensures.value) (asked_moved (dirty_parts c.args.met.now c.args.window.now) c.in_ok-dirty.dirty
    c.index.result.now (g.M.Meter.taken c.args.feature_meter.now) (g.M.Meter.taken c.near_of.new.meter) c.in_ok-dirty.ensures.parts
    c.near_of.ensures.asked)

pub returns-in_err-framed-clause-asked : goal.returns-in_err-framed-clause-asked
returns-in_err-framed-clause-asked g c = rw (← c.index.ensures.value) (asked_moved (dirty_parts c.args.met.now c.args.window.now) c.in_ok-dirty.dirty
    c.index.result.now (g.M.Meter.taken c.args.feature_meter.now) (g.M.Meter.taken c.near_of.new.meter) c.in_ok-dirty.ensures.parts
    c.near_of.ensures.asked)

pub returns-in_err-found-clause-asked : goal.returns-in_err-found-clause-asked
returns-in_err-found-clause-asked g c = rw (← c.index.ensures.value) (asked_moved (dirty_parts c.args.met.now c.args.window.now) c.in_ok-dirty.dirty
    c.index.result.now (g.M.Meter.taken c.args.feature_meter.now) (g.M.Meter.taken c.near_of.new.meter) c.in_ok-dirty.ensures.parts
    c.near_of.ensures.asked)

pub returns-in_err-add_features-clause-asked : goal.returns-in_err-add_features-clause-asked
returns-in_err-add_features-clause-asked g c = rw (← c.index.ensures.value) (asked_moved (dirty_parts c.args.met.now c.args.window.now) c.in_ok-dirty.dirty
    c.index.result.now (g.M.Meter.taken c.args.feature_meter.now) (g.M.Meter.taken c.near_of.new.meter) c.in_ok-dirty.ensures.parts
    c.near_of.ensures.asked)

pub returns-in_err-runs-clause-asked : goal.returns-in_err-runs-clause-asked
returns-in_err-runs-clause-asked g c = rw (← c.index.ensures.value) (asked_moved (dirty_parts c.args.met.now c.args.window.now) c.in_ok-dirty.dirty
    c.index.result.now (g.M.Meter.taken c.args.feature_meter.now) (g.M.Meter.taken c.near_of.new.meter) c.in_ok-dirty.ensures.parts
    c.near_of.ensures.asked)

pub returns-in_err-add_subjects-clause-asked : goal.returns-in_err-add_subjects-clause-asked
returns-in_err-add_subjects-clause-asked g c = rw (← c.index.ensures.value) (asked_moved (dirty_parts c.args.met.now c.args.window.now) c.in_ok-dirty.dirty
    c.index.result.now (g.M.Meter.taken c.args.feature_meter.now) (g.M.Meter.taken c.near_of.new.meter) c.in_ok-dirty.ensures.parts
    c.near_of.ensures.asked)

pub returns-in_err-once_each-clause-asked : goal.returns-in_err-once_each-clause-asked
returns-in_err-once_each-clause-asked g c = rw (← c.index.ensures.value) (asked_moved (dirty_parts c.args.met.now c.args.window.now) c.in_ok-dirty.dirty
    c.index.result.now (g.M.Meter.taken c.args.feature_meter.now) (g.M.Meter.taken c.near_of.new.meter) c.in_ok-dirty.ensures.parts
    c.near_of.ensures.asked)

pub returns-in_err-dirty-clause-asked : goal.returns-in_err-dirty-clause-asked
returns-in_err-dirty-clause-asked g c = asked_none (dirty_parts c.args.met.now c.args.window.now) c.args.ruled.now.placed
    (g.M.Meter.taken c.args.feature_meter.now)

use Rattle.std.proofs.Common.{ap, ◌∙◌}
use Rattle.std.proofs.lemmas.List.{take_all}
use Rattle.topology_terms.specs.Entry.{Entry}
use Rattle.plane_terms.specs.Dirt.{MeetsDirt}
use Rattle.error_store.specs.Keys.{Key}
use Rattle.validation_laws.proofs.Selecting.{picked_none, picked_more}
use Rattle.validation.proofs.selection.add_run.Goals as goal

pub loop-e-init : goal.loop-e-init
loop-e-init c = picked_none (λ (e : Entry). MeetsDirt c.args.dirty.now e.frame) (λ (e : Entry). e.subject) c.args.found.now.items

pub loop-e-preserved : goal.loop-e-preserved
loop-e-preserved c = picked_more (λ (e : Entry). MeetsDirt c.args.dirty.now e.frame) (λ (e : Entry). e.subject) c.args.run.now
    c.loop-e.e-index c.e-item.result c.args.found.now.items c.loop-e.found.items c.push_if.new.found.items c.meets.result
    c.key.inside.subject c.loop-e-test.true c.e-item.is (rw c.frame.ensures at c.meets.ensures)
    (ap (λ (j : Key). j.subject) (c.key.view_is ∙ c.key-key.ensures)) c.loop-e.invariant c.in_ok-push_if.ensures

pub returns : goal.returns
returns c = λ a. rw (take_all c.loop-e.e-index c.args.run.now c.loop-e-test.false) at (c.loop-e.invariant a)

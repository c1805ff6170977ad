use Rattle.std.proofs.Common.{List, Bor}
use Rattle.std.proofs.lemmas.List.{take_all}
use Rattle.topology_terms.specs.Entry.{Entry}
use Rattle.plane_terms.specs.Dirt.{MeetsDirt}
use Rattle.validation_laws.proofs.Selecting.{picked_none}
use Rattle.validation.proofs.Framed.{picked_runs}
use Rattle.validation.proofs.selection.add_subjects.Goals as goal

pub loop-run-init : goal.loop-run-init
loop-run-init c = picked_none (λ (e : Entry). MeetsDirt c.args.dirty.now e.frame) (λ (e : Entry). e.subject) c.args.found.now.items

pub loop-run-preserved : goal.loop-run-preserved
loop-run-preserved c = picked_runs (λ (e : Entry). MeetsDirt c.args.dirty.now e.frame) (λ (e : Entry). e.subject)
    (λ (r : Bor (List Entry)). r.now) c.args.runs.now c.loop-run.run-index c.run-item.result c.args.found.now.items
    c.loop-run.found.items c.add_run.new.found.items c.loop-run-test.true c.run-item.is c.loop-run.invariant c.in_ok-add_run.ensures

pub returns : goal.returns
returns c = λ a. rw (take_all c.loop-run.run-index c.args.runs.now c.loop-run-test.false) at (c.loop-run.invariant a)

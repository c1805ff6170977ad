use Rattle.std.proofs.Common.{inl, inr, subst, ◌∙◌}
use Rattle.outside_terms.specs.Reads.{Passage}
use Rattle.outside_terms.specs.Shelves.{Visit}
use Rattle.script_terms.specs.State.{State}
use Rattle.opening_terms.specs.Saving.{EndsSaving}
use Rattle.topo_run.proofs.Endings.{made_new, made_state}
use Rattle.topo_run.proofs.Shelved.{after_opening, began_saving}
use Rattle.topo_run.proofs.save.replay_to.Goals as goal

pub replay_and_save-status-requires : goal.replay_and_save-status-requires
replay_and_save-status-requires g c = made_new c.of-replayer.result _ c.of-replayer.ensures

pub returns-in-Ok-clause-ends : goal.returns-in-Ok-clause-ends
returns-in-Ok-clause-ends g c =
    let s : Passage = record {
      old = g.S.Source.left c.args.source.now;
      new = g.S.Source.left c.replay_and_save-status.new.source;
      before = g.S.Source.faults c.args.source.now;
      now = g.S.Source.faults c.replay_and_save-status.new.source;
    } in
    let k : Passage = record {
      old = g.K.Sink.written c.args.sink.now;
      new = g.K.Sink.written c.replay_and_save-status.new.sink;
      before = g.K.Sink.faults c.args.sink.now;
      now = g.K.Sink.faults c.replay_and_save-status.new.sink;
    } in
    let h : Visit = record {
      old = g.H.Shelf.held c.world_of.new.shelf;
      new = g.H.Shelf.held c.replay_and_save-status.new.shelf;
      before = g.H.Shelf.faults c.world_of.new.shelf;
      now = g.H.Shelf.faults c.replay_and_save-status.new.shelf;
    } in
    let start = c.in-Ok.ensures.start in
    inl (
      start.0,
      start.1,
      after_opening _ c.args.target.now s h k (g.H.Shelf.held c.args.shelf.now) (g.H.Shelf.faults c.args.shelf.now)
          c.replay_and_save-status.result c.world_of.ensures.kept c.world_of.ensures.later
          (subst (λ (x : State). EndsSaving x c.args.target.now s h k c.replay_and_save-status.result)
          (made_state c.of-replayer.result _ c.of-replayer.ensures ∙ start.2) c.replay_and_save-status.ensures.ends),
    )

pub returns-in-Ok-clause-unopened : goal.returns-in-Ok-clause-unopened
returns-in-Ok-clause-unopened g c =
    let s : Passage = record {
      old = g.S.Source.left c.args.source.now;
      new = g.S.Source.left c.replay_and_save-status.new.source;
      before = g.S.Source.faults c.args.source.now;
      now = g.S.Source.faults c.replay_and_save-status.new.source;
    } in
    let k : Passage = record {
      old = g.K.Sink.written c.args.sink.now;
      new = g.K.Sink.written c.replay_and_save-status.new.sink;
      before = g.K.Sink.faults c.args.sink.now;
      now = g.K.Sink.faults c.replay_and_save-status.new.sink;
    } in
    let h : Visit = record {
      old = g.H.Shelf.held c.world_of.new.shelf;
      new = g.H.Shelf.held c.replay_and_save-status.new.shelf;
      before = g.H.Shelf.faults c.world_of.new.shelf;
      now = g.H.Shelf.faults c.replay_and_save-status.new.shelf;
    } in
    began_saving _ c.of-replayer.result.state c.args.target.now s h k c.replay_and_save-status.result c.replay_and_save-status.ensures.ends

pub returns-in-Err-clause-ends : goal.returns-in-Err-clause-ends
returns-in-Err-clause-ends g c =
    let h : Visit = record {
      old = g.H.Shelf.held c.args.shelf.now;
      new = g.H.Shelf.held c.world_of.new.shelf;
      before = g.H.Shelf.faults c.args.shelf.now;
      now = g.H.Shelf.faults c.world_of.new.shelf;
    } in
    let none = c.in-Err.ensures.none in
    inr (none.0, c.say_unopened.ensures.ends c.args.name.now h none.1, c.world_of.ensures.kept)

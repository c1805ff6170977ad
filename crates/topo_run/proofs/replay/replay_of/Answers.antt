use Rattle.std.proofs.Common.{inl, inr, subst, ◌∙◌}
use Rattle.outside_terms.specs.Reads.{Passage}
use Rattle.outside_terms.specs.Shelves.{Visit}
use Rattle.script_terms.specs.State.{State}
use Rattle.script_terms.specs.Ends.{EndsFrom}
use Rattle.topo_run.proofs.Endings.{from_there, began, made_new, made_state}
use Rattle.topo_run.proofs.replay.replay_of.Goals as goal

pub replay_from-status-requires : goal.replay_from-status-requires
replay_from-status-requires g c = made_new c.of-replayer.result _ c.of-replayer.ensures

pub returns-in-Ok-clause-ends : goal.returns-in-Ok-clause-ends
returns-in-Ok-clause-ends g c =
    let s : Passage = record {
      old = g.S.Source.left c.args.source.now;
      new = g.S.Source.left c.replay_from-status.new.source;
      before = g.S.Source.faults c.args.source.now;
      now = g.S.Source.faults c.replay_from-status.new.source;
    } in
    let k : Passage = record {
      old = g.K.Sink.written c.args.sink.now;
      new = g.K.Sink.written c.replay_from-status.new.sink;
      before = g.K.Sink.faults c.args.sink.now;
      now = g.K.Sink.faults c.replay_from-status.new.sink;
    } in
    let start = c.in-Ok.ensures.start in
    inl (
      start.0,
      start.1,
      subst (λ (x : State). EndsFrom x s k c.replay_from-status.result)
          (made_state c.of-replayer.result _ c.of-replayer.ensures ∙ start.2)
          (from_there c.of-replayer.result.state c.replay_from-status.new.replayer.state s k c.replay_from-status.result
          c.replay_from-status.ensures.ends),
    )

pub returns-in-Ok-clause-unopened : goal.returns-in-Ok-clause-unopened
returns-in-Ok-clause-unopened g c =
    let s : Passage = record {
      old = g.S.Source.left c.args.source.now;
      new = g.S.Source.left c.replay_from-status.new.source;
      before = g.S.Source.faults c.args.source.now;
      now = g.S.Source.faults c.replay_from-status.new.source;
    } in
    let k : Passage = record {
      old = g.K.Sink.written c.args.sink.now;
      new = g.K.Sink.written c.replay_from-status.new.sink;
      before = g.K.Sink.faults c.args.sink.now;
      now = g.K.Sink.faults c.replay_from-status.new.sink;
    } in
    began _ c.of-replayer.result.state s k c.replay_from-status.result
    (from_there c.of-replayer.result.state c.replay_from-status.new.replayer.state s k c.replay_from-status.result
    c.replay_from-status.ensures.ends)

pub returns-in-Err-clause-ends : goal.returns-in-Err-clause-ends
returns-in-Err-clause-ends g c =
    let h : Visit = record {
      old = g.H.Shelf.held c.args.shelf.now;
      new = g.H.Shelf.held c.world_of.new.shelf;
      before = g.H.Shelf.faults c.args.shelf.now;
      now = g.H.Shelf.faults c.world_of.new.shelf;
    } in
    let none = c.in-Err.ensures.none in
    inr (none.0, c.say_unopened.ensures.ends c.args.name.now h none.1)

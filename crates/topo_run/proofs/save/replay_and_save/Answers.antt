use Rattle.std.proofs.Common.{sym, ◌∙◌, ap}
use Rattle.std.specs.Prelude.{Result, Err}
use Rattle.topo_outside.specs.declared.fault.ShelfFault.{ShelfFault}
use Rattle.outside_terms.specs.Reads.{Passage}
use Rattle.outside_terms.specs.Shelves.{Visit}
use Rattle.topo_run.proofs.Shelved.{same_held, answered, not_answered, answered_saved, answered_failed, answered_out}
use Rattle.topo_run.proofs.save.replay_and_save.Goals as goal

abbrev failed : ShelfFault → Result (Unit {0}) ShelfFault
failed e = Err e

pub returns-then-not-is_answered-clause-ends : goal.returns-then-not-is_answered-clause-ends
returns-then-not-is_answered-clause-ends g c =
    let s : Passage = record {
      old = g.S.Source.left c.args.source.now;
      new = g.S.Source.left c.replay_from-status.new.source;
      before = g.S.Source.faults c.args.source.now;
      now = g.S.Source.faults c.replay_from-status.new.source;
    } in
    let k : Passage = record {
      old = g.K.Sink.written c.args.sink.now;
      new = g.K.Sink.written c.replay_from-status.new.sink;
      before = g.K.Sink.faults c.args.sink.now;
      now = g.K.Sink.faults c.replay_from-status.new.sink;
    } in
    let h : Visit = record {
      old = g.H.Shelf.held c.args.shelf.now;
      new = g.H.Shelf.held c.args.shelf.now;
      before = g.H.Shelf.faults c.args.shelf.now;
      now = g.H.Shelf.faults c.args.shelf.now;
    } in
    not_answered c.args.replayer.now.state c.replay_from-status.new.replayer.state c.args.target.now s h k c.replay_from-status.result
    c.replay_from-status.ensures.ends (sym c.is_answered.ensures ∙ c.if-not-is_answered.true) (same_held (g.H.Shelf.held c.args.shelf.now))

pub returns-in-Ok-clause-ends : goal.returns-in-Ok-clause-ends
returns-in-Ok-clause-ends g c =
    let s : Passage = record {
      old = g.S.Source.left c.args.source.now;
      new = g.S.Source.left c.replay_from-status.new.source;
      before = g.S.Source.faults c.args.source.now;
      now = g.S.Source.faults c.replay_from-status.new.source;
    } in
    let k : Passage = record {
      old = g.K.Sink.written c.args.sink.now;
      new = g.K.Sink.written c.replay_from-status.new.sink;
      before = g.K.Sink.faults c.args.sink.now;
      now = g.K.Sink.faults c.replay_from-status.new.sink;
    } in
    let h : Visit = record {
      old = g.H.Shelf.held c.args.shelf.now;
      new = g.H.Shelf.held c.save.new.shelf;
      before = g.H.Shelf.faults c.args.shelf.now;
      now = g.H.Shelf.faults c.save.new.shelf;
    } in
    let done = answered c.replay_from-status.result (sym c.is_answered.ensures ∙ c.if-not-is_answered.false) in
    answered_saved c.args.replayer.now.state c.replay_from-status.new.replayer.state c.args.target.now s h k c.replay_from-status.result
    c.replay_from-status.ensures.ends done c.in-Ok.ensures.saved

pub returns-in-Err-Failed-clause-ends : goal.returns-in-Err-Failed-clause-ends
returns-in-Err-Failed-clause-ends g c =
    let s : Passage = record {
      old = g.S.Source.left c.args.source.now;
      new = g.S.Source.left c.replay_from-status.new.source;
      before = g.S.Source.faults c.args.source.now;
      now = g.S.Source.faults c.replay_from-status.new.source;
    } in
    let k : Passage = record {
      old = g.K.Sink.written c.args.sink.now;
      new = g.K.Sink.written c.replay_from-status.new.sink;
      before = g.K.Sink.faults c.args.sink.now;
      now = g.K.Sink.faults c.replay_from-status.new.sink;
    } in
    let h : Visit = record {
      old = g.H.Shelf.held c.args.shelf.now;
      new = g.H.Shelf.held c.save.new.shelf;
      before = g.H.Shelf.faults c.args.shelf.now;
      now = g.H.Shelf.faults c.save.new.shelf;
    } in
    let done = answered c.replay_from-status.result (sym c.is_answered.ensures ∙ c.if-not-is_answered.false) in
    answered_failed c.args.replayer.now.state c.replay_from-status.new.replayer.state c.args.target.now s h k c.replay_from-status.result
    c.replay_from-status.ensures.ends done (c.in-Err-Failed.ensures.failed (ap failed c.in-Err-Failed.field-0-is)) c.in-Err-Failed.ensures.others

pub returns-in-Err-NoMemory-clause-ends : goal.returns-in-Err-NoMemory-clause-ends
returns-in-Err-NoMemory-clause-ends g c =
    let s : Passage = record {
      old = g.S.Source.left c.args.source.now;
      new = g.S.Source.left c.replay_from-status.new.source;
      before = g.S.Source.faults c.args.source.now;
      now = g.S.Source.faults c.replay_from-status.new.source;
    } in
    let k : Passage = record {
      old = g.K.Sink.written c.args.sink.now;
      new = g.K.Sink.written c.replay_from-status.new.sink;
      before = g.K.Sink.faults c.args.sink.now;
      now = g.K.Sink.faults c.replay_from-status.new.sink;
    } in
    let h : Visit = record {
      old = g.H.Shelf.held c.args.shelf.now;
      new = g.H.Shelf.held c.save.new.shelf;
      before = g.H.Shelf.faults c.args.shelf.now;
      now = g.H.Shelf.faults c.save.new.shelf;
    } in
    let done = answered c.replay_from-status.result (sym c.is_answered.ensures ∙ c.if-not-is_answered.false) in
    answered_out c.args.replayer.now.state c.replay_from-status.new.replayer.state c.args.target.now s h k c.replay_from-status.result
    c.replay_from-status.ensures.ends done (c.in-Err-NoMemory.ensures.no_memory (ap failed c.in-Err-NoMemory.field-0-is))

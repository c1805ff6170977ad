use Rattle.std.proofs.Common.{◌≡◌, ◌≤◌, ◌+◌, length}
use Rattle.topo_run.specs.declared.read.TheConstants.{PIECE}
use Rattle.topo_run.proofs.Reading.{Taking}
use Rattle.topo_run.proofs.read.answer_script.Given as goal

abbrev pub invariant-loop-replayer : goal.invariant-loop-replayer
invariant-loop-replayer g l = record {
  taking : Taking l.initial.replayer l.replayer (g.S.Source.left l.initial.source) (g.S.Source.left l.source)
      (g.K.Sink.written l.initial.sink) (g.K.Sink.written l.sink) l.room;
  read : g.S.Source.faults l.initial.source ≤ g.S.Source.faults l.source;
  wrote : g.K.Sink.faults l.initial.sink ≤ g.K.Sink.faults l.sink;
  piece : length l.piece.items ≡ PIECE;
}

abbrev pub decreases-loop-replayer : goal.decreases-loop-replayer
decreases-loop-replayer g l = l.room + 1

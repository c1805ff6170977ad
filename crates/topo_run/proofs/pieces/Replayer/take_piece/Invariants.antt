use Rattle.std.proofs.Common.{◌≤◌, ◌++◌, ℕ, List, false, length}
use Rattle.text_terms.specs.Lines.{lines_of}
use Rattle.topo_run.specs.Replayers.{Holds, tail_of}
use Rattle.topo_run.proofs.Feeding.{InPiece}
use Rattle.topo_run.proofs.pieces.Replayer.take_piece.Given as goal

abbrev pub invariant-loop-end : goal.invariant-loop-end
invariant-loop-end g l = record {
  far : (tail : List ℕ) → Holds tail l.initial.self.rest → InPiece l.initial.self (lines_of false (tail ++ l.initial.left))
      (tail_of (tail ++ l.initial.left)) l.self l.left (g.K.Sink.written l.initial.sink) (g.K.Sink.written l.sink) l.gathered.items;
  later : g.K.Sink.faults l.initial.sink ≤ g.K.Sink.faults l.sink;
}

abbrev pub decreases-loop-end : goal.decreases-loop-end
decreases-loop-end g l = length l.left

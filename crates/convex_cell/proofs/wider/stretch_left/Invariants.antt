use Rattle.convex_cell.specs.Span.{AreRound}
use Rattle.convex_cell.proofs.wider.stretch_left.Given as goal

abbrev pub invariant-loop-done : goal.invariant-loop-done
invariant-loop-done l = AreRound l.wider l.initial.wider

use Rattle.convex_cell.specs.Span.{AreRound}
use Rattle.convex_cell.proofs.wider.stretch_on.Given as goal

abbrev pub invariant-loop-i : goal.invariant-loop-i
invariant-loop-i l = AreRound l.wider l.initial.wider

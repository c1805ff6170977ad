use Rattle.std.proofs.Common.{reverse, drop}
use Rattle.shape.specs.Frames.{IsRound}
use Rattle.rule_loops.specs.Ahead.{AreAhead}
use Rattle.rule_loops.proofs.ahead.rounds_ahead.Given as goal

abbrev pub invariant-loop-i : goal.invariant-loop-i
invariant-loop-i l = record {
  round : IsRound l.round (drop l.i l.segments);
  ahead : AreAhead (reverse l.ahead.items) (drop l.i l.segments);
}

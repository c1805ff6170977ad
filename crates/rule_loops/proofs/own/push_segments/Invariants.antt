use Rattle.std.proofs.Common.{◌≡◌, ◌++◌, drop}
use Rattle.rule_loops.proofs.own.push_segments.Given as goal

abbrev pub invariant-loop-segment : goal.invariant-loop-segment
invariant-loop-segment l = l.segments.items ++ drop l.segment-index l.more ≡ l.initial.segments.items ++ l.more

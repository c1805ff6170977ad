use Rattle.std.proofs.Common.{◌≡◌, ◌-◌, true, drop, length}
use Rattle.std.specs.Bool.{OnTrue}
use Rattle.rule_loops.specs.Open.{AreShutAt}
use Rattle.rule_loops.proofs.OpenPieces.{AreShutBut}
use Rattle.rule_loops.proofs.remainder.covered_parts.Given as goal

abbrev pub decreases-loop-i : goal.decreases-loop-i
decreases-loop-i l = l.window.last - l.next

abbrev pub invariant-loop-i : goal.invariant-loop-i
invariant-loop-i l = record {
  same : l.piece ≡ l.fn.piece;
  long : length l.marks.items ≡ length l.outside;
  each : AreShutAt l.marks.items (drop 1 l.near) l.fn.piece l.outside;
  all : OnTrue l.is_all (AreShutBut true l.near l.fn.piece l.outside l.next);
}

use Rattle.std.proofs.Common.{◌≡◌, ◌-◌, length, drop}
use Rattle.rule_loops.proofs.OpenPieces.{AreShutBut}
use Rattle.rule_loops.proofs.open.+is_shut.Given as goal

abbrev pub decreases-is_shut : goal.decreases-is_shut
decreases-is_shut l = length l.near.now - l.from

abbrev pub decreases-loop-i : goal.decreases-loop-i
decreases-loop-i l = l.window.last - l.next

abbrev pub invariant-loop-i : goal.invariant-loop-i
invariant-loop-i l = record {
  same : l.piece ≡ l.fn.piece;
  shut : AreShutBut l.is_open (drop l.from l.near) l.fn.piece l.outside l.next;
}

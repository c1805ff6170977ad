use Rattle.std.proofs.Common.{◌≡◌, ◌++◌, ◌+◌, ◌-◌, drop, length}
use Rattle.rule_loops.proofs.Depth.{left_of_parts}
use Rattle.rule_loops.proofs.remainder.+push_left.Given as goal

abbrev pub decreases-push_left : goal.decreases-push_left
decreases-push_left l = length l.near.now - l.from

abbrev pub decreases-loop-i : goal.decreases-loop-i
decreases-loop-i l = l.window.last - l.next

abbrev pub invariant-loop-i : goal.invariant-loop-i
invariant-loop-i l = record {
  left : l.left ≡ l.fn.left ++ left_of_parts l.fn.cell l.outside (drop (l.from + 1) l.near) l.next;
  cell : l.cell ≡ l.fn.cell;
  piece : l.piece ≡ l.fn.piece;
}

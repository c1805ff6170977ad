use Rattle.std.proofs.Common.{◌≡◌, ◌++◌, ◌-◌, drop}
use Rattle.rule_loops.proofs.Depth.{left_of_parts}
use Rattle.rule_loops.proofs.remainder.push_parts.Given as goal

abbrev pub decreases-loop-i : goal.decreases-loop-i
decreases-loop-i l = l.window.last - l.next

abbrev pub invariant-loop-i : goal.invariant-loop-i
invariant-loop-i l = record {
  left : l.left ≡ l.fn.left ++ left_of_parts l.fn.cell l.outside (drop 1 l.near) l.next;
  cell : l.cell ≡ l.fn.cell;
  piece : l.piece ≡ l.fn.piece;
}

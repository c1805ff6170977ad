use Rattle.convex_cell.proofs.Chains.{IsPassed}
use Rattle.convex_cell.proofs.indexed.is_in_chain.Given as goal

abbrev pub invariant-loop-next : goal.invariant-loop-next
invariant-loop-next l = IsPassed l.half l.halves l.next

abbrev pub decreases-loop-next : goal.decreases-loop-next
decreases-loop-next l = l.next

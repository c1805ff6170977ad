use Rattle.std.specs.VecDeque.{deque_len}
use Rattle.error_store.proofs.Cutting.{IsCutting}
use Rattle.error_store.proofs.cut.cut.Given as goal

abbrev pub invariant-loop-first : goal.invariant-loop-first
invariant-loop-first l = IsCutting l.fn.entries.items l.runs l.rest.items

abbrev pub decreases-loop-first : goal.decreases-loop-first
decreases-loop-first l = deque_len l.rest

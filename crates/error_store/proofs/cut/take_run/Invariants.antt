use Rattle.std.proofs.Common.{◌≤◌}
use Rattle.std.specs.VecDeque.{deque_len}
use Rattle.error_store.proofs.Cutting.{IsTaking}
use Rattle.error_store.proofs.cut.take_run.Given as goal

abbrev pub invariant-loop-next : goal.invariant-loop-next
invariant-loop-next l = IsTaking l.fn.first l.fn.rest.items l.run.items l.rest.items × (deque_len l.rest ≤ deque_len l.fn.rest)

abbrev pub decreases-loop-next : goal.decreases-loop-next
decreases-loop-next l = deque_len l.rest

use Rattle.std.proofs.Common.{arith}
use Rattle.error_store.proofs.Walking.{off_before, off_all}
use Rattle.error_store.proofs.walk.last_off.Goals as goal

pub returns-else-next-pair : goal.returns-else-next-pair
returns-else-next-pair c = off_before c.args.subjects.now c.args.pair c.in-Some.next c.in-Some.ensures c.if-next-pair.false

pub returns-in-None : goal.returns-in-None
returns-in-None c = off_all c.args.subjects.now c.args.pair _ c.in-None.ensures (omega arith)

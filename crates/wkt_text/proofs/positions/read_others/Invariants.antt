use Rattle.std.proofs.Common.{length}
use Rattle.wkt_laws.specs.Steps.{More}
use Rattle.wkt_text.proofs.positions.read_others.Given as goal

abbrev pub invariant-loop-next : goal.invariant-loop-next
invariant-loop-next l = More l.fn.positions.items l.positions.items l.text l.rest

abbrev pub decreases-loop-next : goal.decreases-loop-next
decreases-loop-next l = length l.rest

use Rattle.std.proofs.Common.{length}
use Rattle.wkt_text.specs.States.{state_of}
use Rattle.wkt_text.proofs.Geometries.{Keeps}
use Rattle.wkt_text.proofs.spelling.read_all.Given as goal

abbrev pub invariant-loop-rest : goal.invariant-loop-rest
invariant-loop-rest l = Keeps l.text l.rest (state_of l.state)

abbrev pub decreases-loop-rest : goal.decreases-loop-rest
decreases-loop-rest l = length l.rest

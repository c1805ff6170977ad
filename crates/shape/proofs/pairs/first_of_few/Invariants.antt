use Rattle.shape.proofs.FirstPairs.{NoneBefore}
use Rattle.shape.proofs.pairs.first_of_few.Given as goal

abbrev pub invariant-loop-i : goal.invariant-loop-i
invariant-loop-i l = NoneBefore l.segs l.i

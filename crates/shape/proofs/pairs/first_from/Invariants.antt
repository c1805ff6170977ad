use Rattle.shape.specs.Pairs.{NoneFrom}
use Rattle.shape.proofs.pairs.first_from.Given as goal

abbrev pub invariant-loop-j : goal.invariant-loop-j
invariant-loop-j l = NoneFrom l.segs l.fn.i l.fn.run.from l.j

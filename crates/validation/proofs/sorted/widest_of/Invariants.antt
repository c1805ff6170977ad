use Rattle.validation.proofs.TooFar.{IsWidest}
use Rattle.validation.proofs.sorted.widest_of.Given as goal

abbrev pub invariant-loop-s : goal.invariant-loop-s
invariant-loop-s l = IsWidest l.widest l.rects l.s-index

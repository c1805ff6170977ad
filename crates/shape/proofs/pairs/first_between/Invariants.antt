use Rattle.shape.specs.Pairs.{NoneWithin}
use Rattle.shape.proofs.pairs.first_between.Given as goal

abbrev pub invariant-loop-i : goal.invariant-loop-i
invariant-loop-i l = NoneWithin l.segs l.fn.block.from l.i l.fn.other.from l.fn.other.to

use Rattle.std.proofs.Common.{◌*◌}
use Rattle.shape.proofs.FirstPairs.{NoneBefore}
use Rattle.shape.proofs.pairs.first_of_blocks.Given as goal

abbrev pub invariant-loop-a : goal.invariant-loop-a
invariant-loop-a l = NoneBefore l.segs (32 * l.a)

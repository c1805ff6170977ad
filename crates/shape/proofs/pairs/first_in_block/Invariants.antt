use Rattle.std.proofs.Common.{◌+◌, ◌*◌}
use Rattle.shape.specs.Pairs.{IsFirstWithin}
use Rattle.shape.proofs.pairs.first_in_block.Given as goal

abbrev pub invariant-loop-b : goal.invariant-loop-b
invariant-loop-b l = IsFirstWithin l.segs (32 * l.a) (32 * l.a + 32) (32 * l.a) (32 * l.b) l.best

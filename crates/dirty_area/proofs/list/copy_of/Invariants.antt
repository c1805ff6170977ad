use Rattle.std.proofs.Common.{take, ◌≡◌}
use Rattle.dirty_area.specs.Blocks.{runs}
use Rattle.dirty_area.proofs.list.copy_of.Given as goal

abbrev pub invariant-loop-block : goal.invariant-loop-block
invariant-loop-block l = runs l.copy.items ≡ runs (take l.block-index l.blocks)

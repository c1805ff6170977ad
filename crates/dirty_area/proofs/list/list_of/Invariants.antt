use Rattle.std.proofs.Common.{take, ◌≡◌}
use Rattle.dirty_area.specs.Blocks.{all_rects}
use Rattle.dirty_area.proofs.list.list_of.Given as goal

abbrev pub invariant-loop-block : goal.invariant-loop-block
invariant-loop-block l = l.rects.items ≡ all_rects (take l.block-index l.blocks)

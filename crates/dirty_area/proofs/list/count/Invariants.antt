use Rattle.std.proofs.Common.{take, length, ◌≡◌, ◌≤◌, ◌*◌}
use Rattle.dirty_area.specs.Blocks.{all_rects}
use Rattle.dirty_area.proofs.list.count.Given as goal

abbrev pub invariant-loop-block : goal.invariant-loop-block
invariant-loop-block l = (l.n ≡ length (all_rects (take l.block-index l.blocks))) × (l.n ≤ l.block-index * 4294967295)

use Rattle.std.proofs.Common.{◌≡◌, ◌≤◌, length, List}
use Rattle.grid_index.specs.declared.placed.Placed.{Placed}
use Rattle.dirty_area.specs.Blocks.{runs, all_rects}
use Rattle.dirty_area.specs.Indexed.{IsIndexed}
use Rattle.dirty_area.proofs.list.drop_empty.Given as goal

abbrev pub invariant-loop-blocks : goal.invariant-loop-blocks
invariant-loop-blocks l = (all_rects l.blocks.items ≡ all_rects l.initial.blocks.items) × (length l.blocks.items ≤ length l.initial.blocks.items)
    × ((ps : List Placed) → IsIndexed (runs l.initial.blocks.items) ps → IsIndexed (runs l.blocks.items) ps)

abbrev pub decreases-loop-blocks : goal.decreases-loop-blocks
decreases-loop-blocks l = length l.blocks.items

use Rattle.std.proofs.Common.{take}
use Rattle.dirty_area.specs.Blocks.{runs}
use Rattle.dirty_area.specs.Indexed.{IsIndexed}
use Rattle.dirty_area.proofs.finder.make_index.Given as goal

abbrev pub invariant-loop-place : goal.invariant-loop-place
invariant-loop-place l = IsIndexed (runs (take l.place l.blocks)) l.index

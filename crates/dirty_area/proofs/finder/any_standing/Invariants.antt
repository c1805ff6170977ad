use Rattle.std.proofs.Common.{take, ◌≡◌, false}
use Rattle.std.specs.List.{list_any}
use Rattle.grid_index.specs.Relations.{stands}
use Rattle.dirty_area.specs.Blocks.{all_rects}
use Rattle.dirty_area.proofs.finder.any_standing.Given as goal

abbrev pub invariant-loop-block : goal.invariant-loop-block
invariant-loop-block l = list_any (λ s. stands l.relation s l.r) (all_rects (take l.block-index l.blocks)) ≡ false

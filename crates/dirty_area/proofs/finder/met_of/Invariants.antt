use Rattle.std.proofs.Common.{take, ◌≡◌}
use Rattle.std.specs.List.{filter}
use Rattle.plane_terms.specs.Rectangle.{rects_meet}
use Rattle.dirty_area.specs.Blocks.{all_rects}
use Rattle.dirty_area.proofs.finder.met_of.Given as goal

abbrev pub invariant-loop-block : goal.invariant-loop-block
invariant-loop-block l = l.met.items ≡ filter (λ s. rects_meet s l.r) (all_rects (take l.block-index l.blocks))

use Rattle.std.proofs.Common.{take, ◌≡◌, ◌++◌}
use Rattle.std.specs.List.{filter}
use Rattle.plane_terms.specs.Rectangle.{rects_meet}
use Rattle.dirty_area.proofs.finder.add_met.Given as goal

abbrev pub invariant-loop-s : goal.invariant-loop-s
invariant-loop-s l = l.met.items ≡ l.fn.met.items ++ filter (λ s. rects_meet s l.r) (take l.s-index l.rects)

use Rattle.std.proofs.Common.{take, true}
use Rattle.dirty_area.specs.Indexed.{GainsSome}
use Rattle.dirty_area.proofs.finder.put_each.Given as goal

abbrev pub invariant-loop-r : goal.invariant-loop-r
invariant-loop-r l = GainsSome l.place (take l.r-index l.rects) (λ s. true) l.fn.index l.index

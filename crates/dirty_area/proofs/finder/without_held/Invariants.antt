use Rattle.std.proofs.Common.{take}
use Rattle.plane_terms.specs.Rectangle.{is_within}
use Rattle.dirty_area.specs.Indexed.{LosesSome}
use Rattle.dirty_area.proofs.finder.without_held.Given as goal

abbrev pub invariant-loop-s : goal.invariant-loop-s
invariant-loop-s l = LosesSome l.place (take l.s-index l.rects) (λ s. is_within s l.r) l.initial.index l.index

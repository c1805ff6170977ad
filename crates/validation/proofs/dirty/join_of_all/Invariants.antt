use Rattle.std.proofs.Common.{take}
use Rattle.plane_terms.specs.Lists.{Every}
use Rattle.plane_terms.specs.Rectangle.{Rectangle, IsWithin}
use Rattle.validation.proofs.dirty.join_of_all.Given as goal

abbrev pub invariant-loop-r : goal.invariant-loop-r
invariant-loop-r l = Every (λ (s : Rectangle). IsWithin s l.joined) (take l.r-index l.rects)
    × ((t : Rectangle) → Every (λ (s : Rectangle). IsWithin s t) l.rects → IsWithin l.joined t)

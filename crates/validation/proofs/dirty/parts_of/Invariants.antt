use Rattle.std.proofs.Common.{◌≡◌, take}
use Rattle.plane_terms.specs.Lists.{Every}
use Rattle.plane_terms.specs.Rectangle.{IsRectangle}
use Rattle.validation.specs.Asked.{dirty_parts}
use Rattle.validation.proofs.Dirtied.{CoverParts}
use Rattle.validation.proofs.dirty.parts_of.Given as goal

abbrev pub invariant-loop-r : goal.invariant-loop-r
invariant-loop-r l = CoverParts l.parts.items (take l.r-index l.rects) l.window × Every IsRectangle l.parts.items
    × (l.parts.items ≡ dirty_parts (take l.r-index l.rects) l.window)

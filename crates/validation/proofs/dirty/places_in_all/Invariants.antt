use Rattle.std.proofs.Common.{◌≤◌, take}
use Rattle.validation.specs.Asked.{places_in}
use Rattle.validation.proofs.dirty.places_in_all.Given as goal

abbrev pub invariant-loop-r : goal.invariant-loop-r
invariant-loop-r l = l.count ≤ places_in (take l.r-index l.rects)

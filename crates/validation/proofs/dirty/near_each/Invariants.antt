use Rattle.std.proofs.Common.{◌≤◌, ◌+◌, ℕ, take}
use Rattle.validation.specs.Asked.{asked_steps}
use Rattle.validation.specs.Placed.{HasNear}
use Rattle.validation.proofs.dirty.near_each.Given as goal

abbrev pub invariant-loop-r : goal.invariant-loop-r
invariant-loop-r g l = HasNear l.found.items l.index (take l.r-index l.rects)
    × (g.M.Meter.taken l.initial.meter ≤ g.M.Meter.taken l.meter)
    × ((s : ℕ) → g.M.Meter.taken l.meter ≤ g.M.Meter.taken l.initial.meter + asked_steps s (take l.r-index l.rects) l.index)

use Rattle.std.proofs.Common.{ℕ, ◌<◌}
use Rattle.std.specs.Prelude.{◌↔◌, All, Contains}
use Rattle.std.specs.List.Sorted.{IsStrictlyIncreasing}
use Rattle.dirty_area.specs.Blocks.{runs}
use Rattle.dirty_area.specs.Indexed.{MeetsAt}
use Rattle.dirty_area.proofs.finder.places_of.Given as goal

abbrev pub invariant-loop-place : goal.invariant-loop-place
invariant-loop-place l = IsStrictlyIncreasing l.places.items × All (λ h. h < l.place) l.places.items
    × ((k : ℕ) → Contains l.places.items k ↔ ((k < l.place) × MeetsAt (runs l.blocks) l.r k))

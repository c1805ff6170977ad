-- The stretches of a wall, and how they lie.
--
-- stretches_of       below the first vertex, between two that follow one another, above the last; without those that are covered
-- LiesBelow s t      what is below the upper end of s is below that of t, and what is above the lower end of t is above that of s
-- AreStacked ss      each stretch lies below those after it
-- IsApart x c s      no point of the wall x is both in the slot c and in the stretch s
use Rattle.std.specs.Prelude.{ℤ, Bool, cond, List, [], ◌∷◌, ◌++◌, Option, Some, None}
use Rattle.plane_terms.specs.Lists.{EveryPair}
use Rattle.plane_terms.specs.HalfPlane.{x_is}
use Rattle.plane_terms.specs.Point.{Point}
use Rattle.plane_terms.specs.Cell.{InCell, HasPoint}
use Rattle.column_cut.specs.Pieces.{above, below, slot_cell, stretch_cell}
use Rattle.column_cut.specs.declared.slots.Slot.{Slot}
use Rattle.column_cut.specs.declared.intervals.Stretch.{Stretch}

abbrev pub stretches_of : (ℤ → ℤ → Bool) → Option ℤ → List ℤ → List Stretch
stretches_of covered None [] = record { low = None; high = None } ∷ []
stretches_of covered (Some a) [] = record { low = Some a; high = None } ∷ []
stretches_of covered None (b ∷ bs) = record { low = None; high = Some b } ∷ stretches_of covered (Some b) bs
stretches_of covered (Some a) (b ∷ bs) = cond (covered a b) (stretches_of covered (Some b) bs)
    (record { low = Some a; high = Some b } ∷ stretches_of covered (Some b) bs)

pub record LiesBelow (s t : Stretch) : Type 0 where
  pub upper : (p : Point) → InCell (below s.high) p → InCell (below t.high) p
  pub lower : (p : Point) → InCell (above t.low) p → InCell (above s.low) p

abbrev pub AreStacked : List Stretch → Type 0
AreStacked ss = EveryPair LiesBelow ss

abbrev pub IsApart : ℤ → Slot → Stretch → Type 0
IsApart x c s = ¬ (HasPoint (x_is x ∷ slot_cell c ++ stretch_cell s))

-- The stretches of a wall lie one above another, so a slot meets those between the first that does not end below it and the first that
-- begins above it.
use Rattle.std.proofs.Common.{◌≡◌, ℤ, pos, ◌*ℤ◌, ◌<ℤ◌, arith, ap, refl, Bool, true, false, cond, List, []}
use Rattle.std.proofs.Common.{◌∷◌, Option, Some, None, map}
use Rattle.std.proofs.lemmas.Int.{ints}
use Rattle.plane_terms.specs.Point.{Point}
use Rattle.plane_terms.specs.Lists.{Every}
use Rattle.plane_terms.specs.Cell.{Cell}
use Rattle.plane_terms.specs.HalfPlane.{Holds, y_over, y_under}
use Rattle.plane_terms.specs.Columns.{intervals}
use Rattle.plane_terms.proofs.ListLemmas.{every_map}
use Rattle.number_laws.proofs.Order.{lt_scaled}
use Rattle.cell_laws.proofs.GridLines.{y_over_holds, y_under_holds}
use Rattle.column_laws.specs.Rising.{IsRising}
use Rattle.column_cut.specs.declared.intervals.Stretch.{Stretch}
use Rattle.column_cut.specs.Pieces.{stretch_cell}
use Rattle.column_cut.specs.Stretches.{stretches_of, LiesBelow, AreStacked}

-- ---- their cells
by_covered : (b : Bool) (s : Stretch) (c : Cell) (ss : List Stretch) (cs : List Cell) → stretch_cell s ≡ c → map stretch_cell ss ≡ cs
    → map stretch_cell (cond b ss (s ∷ ss)) ≡ cond b cs (c ∷ cs)
by_covered true s c ss cs e f = f
by_covered false s c ss cs e f = rw (e, f) refl

pub cells_of_stretches : (covered : ℤ → ℤ → Bool) (from : Option ℤ) (vs : List ℤ) → map stretch_cell (stretches_of covered from vs)
    ≡ intervals covered from vs
cells_of_stretches covered None [] = refl
cells_of_stretches covered (Some a) [] = refl
cells_of_stretches covered None (b ∷ bs) = ap (λ cs. (y_under b ∷ []) ∷ cs) (cells_of_stretches covered (Some b) bs)
cells_of_stretches covered (Some a) (b ∷ bs) = by_covered (covered a b) _ _ _ _ refl (cells_of_stretches covered (Some b) bs)

-- ---- they are stacked
-- the stretch without height at v
abbrev at : ℤ → Stretch
at v = record { low = Some v; high = Some v }

under_higher : (a b : ℤ) → a <ℤ b → (p : Point) → Holds (y_under a) p → Holds (y_under b) p
under_higher a b l p h = (y_under_holds b p).1 (through (lt_scaled a b p.w p.positive l) ((y_under_holds a p).0 h))
  where
    through : (a *ℤ pos p.w) <ℤ (b *ℤ pos p.w) → p.y <ℤ (a *ℤ pos p.w) → p.y <ℤ (b *ℤ pos p.w)
    through h k = omega (arith, ints)

over_lower : (a b : ℤ) → a <ℤ b → (p : Point) → Holds (y_over b) p → Holds (y_over a) p
over_lower a b l p h = (y_over_holds a p).1 (through (lt_scaled a b p.w p.positive l) ((y_over_holds b p).0 h))
  where
    through : (a *ℤ pos p.w) <ℤ (b *ℤ pos p.w) → (b *ℤ pos p.w) <ℤ p.y → (a *ℤ pos p.w) <ℤ p.y
    through h k = omega (arith, ints)

LiesBelow-through : (s t u : Stretch) → LiesBelow s t → LiesBelow t u → LiesBelow s u
LiesBelow-through s t u h k = record { upper = λ p i. k.upper p (h.upper p i); lower = λ p i. h.lower p (k.lower p i) }

at-higher : (a b : ℤ) → a <ℤ b → LiesBelow (at a) (at b)
at-higher a b l = record { upper = λ p h. (under_higher a b l p h.0, tt); lower = λ p h. (over_lower a b l p h.0, tt) }

-- those from the vertex a on are stacked, and lie above it
record IsFrom (a : ℤ) (ss : List Stretch) : Type 0 where
  stacked : AreStacked ss
  above : Every (LiesBelow (at a)) ss

from_covered : (b : Bool) (a v : ℤ) (ss : List Stretch) → a <ℤ v → IsFrom v ss
    → IsFrom a (cond b ss (record { low = Some a; high = Some v } ∷ ss))
from_covered b a v ss l h = by_test b
  where
    passed : Every (LiesBelow (at a)) ss
    passed = every_map (LiesBelow (at v)) (LiesBelow (at a)) (λ s k. LiesBelow-through (at a) (at v) s (at-higher a v l) k) ss h.above

    own : Stretch
    own = record { low = Some a; high = Some v }

    own_below : Every (LiesBelow own) ss
    own_below = every_map (LiesBelow (at v)) (LiesBelow own)
        (λ s k. record { upper = k.upper; lower = λ p i. (at-higher a v l).lower p (k.lower p i) }) ss h.above

    own_above : LiesBelow (at a) own
    own_above = record { upper = λ p i. (at-higher a v l).upper p i; lower = λ p i. i }

    by_test : (b : Bool) → IsFrom a (cond b ss (own ∷ ss))
    by_test true = record { stacked = h.stacked; above = passed }
    by_test false = record { stacked = (own_below, h.stacked); above = (own_above, passed) }

stacked_from : (covered : ℤ → ℤ → Bool) (a : ℤ) (vs : List ℤ) → IsRising (a ∷ vs) → IsFrom a (stretches_of covered (Some a) vs)
stacked_from covered a [] r = record { stacked = (tt, tt); above = (record { upper = λ p i. tt; lower = λ p i. i }, tt) }
stacked_from covered a (b ∷ bs) r = from_covered (covered a b) a b _ r.0.0 (stacked_from covered b bs r.1)

pub stretches_are_stacked : (covered : ℤ → ℤ → Bool) (vs : List ℤ) → IsRising vs → AreStacked (stretches_of covered None vs)
stretches_are_stacked covered [] r = (tt, tt)
stretches_are_stacked covered (b ∷ bs) r =
    let h = stacked_from covered b bs r in (
      every_map (LiesBelow (at b)) (LiesBelow (record { low = None; high = Some b }))
          (λ s k. record { upper = k.upper; lower = λ p i. tt }) _ h.above,
      h.stacked,
    )

-- What the columns of a polygon rest on, as laws of their own.
--
-- IsAcross x y p        p lies between the upright lines x and y, or on one of them
-- IsFrom x y p          so too, and not on y
-- IsFree x y s          no end of s lies strictly between x and y
-- IsBelow x y s t       across the strip, what is above t is above s, and what is below s is below t
-- IsJudged even ss p    p is on no segment, and the number of those that run below it is even where `even` is true, odd where it is false
-- slot_at j b ss        the cell of the slot j of a column, counted from 0 below; the lowest lies over b; beyond the last there is none
-- slot_cells even ss xs     the cells of every other slot, on the walls at xs and in the columns between them, empty ones too
-- IsBeside xs p         p lies left of the first or right of the last of them; of none at all, every point does
--
-- ColumnsHaveOneOrder   the segments of a column, of a simple list, are each below the later ones over the whole strip, its walls included
-- SlotsAreClear         a point of a slot's cell, in a column or on a wall, is on no segment, and so many run below it as the slot's
--                       parity says
-- SlotsCount            below a point of the slot j of a column, its left wall included, exactly j segments run
-- SlotsAreEnough        each point that is on no segment lies in a slot's cell, or beside them all
-- NoneCountsBeside      a point beside them all is on no segment, and none runs below it; so for every list
--
-- "Above" a segment is left of the line through it, seen from lo to hi. The Bool is that of the columns. Source: own.
use Rattle.std.specs.Prelude.{◌≡◌, ℕ, zero, suc, ℤ, pos, ◌*ℤ◌, ◌≤ℤ◌, ◌<ℤ◌, Bool, not, List, [], ◌∷◌, ◌++◌, ◌⊎◌, Option, Some, None}
use Rattle.plane_terms.specs.Lists.{Every, EveryPair, how_many, is_odd}
use Rattle.plane_terms.specs.Point.{Point}
use Rattle.plane_terms.specs.Segment.{Segment, cross, right_of}
use Rattle.plane_terms.specs.Polygon.{OnBoundary, counts, IsSimpleList}
use Rattle.plane_terms.specs.Cell.{Cell, InCell, InCells}
use Rattle.plane_terms.specs.Columns.{abscissas, column, over, cells_from, last}

pub record IsAcross (x y : ℤ) (p : Point) : Type 0 where
  pub right : (x *ℤ pos p.w) ≤ℤ p.x
  pub left : p.x ≤ℤ (y *ℤ pos p.w)

pub record IsFrom (x y : ℤ) (p : Point) : Type 0 where
  pub right : (x *ℤ pos p.w) ≤ℤ p.x
  pub left : p.x <ℤ (y *ℤ pos p.w)

pub record IsFree (x y : ℤ) (s : Segment) : Type 0 where
  pub low : (s.lo.x ≤ℤ x) ⊎ (y ≤ℤ s.lo.x)
  pub high : (s.hi.x ≤ℤ x) ⊎ (y ≤ℤ s.hi.x)

pub record IsBelow (x y : ℤ) (s t : Segment) : Type 0 where
  pub over : (p : Point) → IsAcross x y p → pos 0 <ℤ cross t p → pos 0 <ℤ cross s p
  pub under : (p : Point) → IsAcross x y p → cross s p <ℤ pos 0 → cross t p <ℤ pos 0

pub record IsJudged (even : Bool) (ss : List Segment) (p : Point) : Type 0 where
  pub clear : ¬ (OnBoundary ss p)
  pub parity : is_odd (how_many (λ s. counts s p) ss) ≡ not even

abbrev pub slot_at : ℕ → Option Segment → List Segment → Option Cell
slot_at zero b [] = Some (over b)
slot_at zero b (s ∷ ss) = Some (over b ++ right_of s ∷ [])
slot_at (suc j) b [] = None
slot_at (suc j) b (s ∷ ss) = slot_at j (Some s) ss

abbrev pub slot_cells : Bool → List Segment → List ℤ → List Cell
slot_cells even ss [] = []
slot_cells even ss (x ∷ xs) = cells_from even ss x xs

abbrev pub IsBeside : List ℤ → Point → Type 0
IsBeside [] p = Unit {0}
IsBeside (x ∷ xs) p = (p.x <ℤ (x *ℤ pos p.w)) ⊎ ((last x xs *ℤ pos p.w) <ℤ p.x)

abbrev pub ColumnsHaveOneOrder : Type 0
ColumnsHaveOneOrder = (ss : List Segment) → IsSimpleList ss → (x y : ℤ) → x <ℤ y → EveryPair (IsBelow x y) (column x y ss)

abbrev pub SlotsAreClear : Type 0
SlotsAreClear = (ss : List Segment) → IsSimpleList ss → (even : Bool) (p : Point) → InCells (slot_cells even ss (abscissas ss)) p
    → IsJudged even ss p

abbrev pub SlotsCount : Type 0
SlotsCount = (ss : List Segment) → IsSimpleList ss → (x y : ℤ) → x <ℤ y → Every (IsFree x y) ss → (j : ℕ) (c : Cell)
    → slot_at j None (column x y ss) ≡ Some c
    → (p : Point) → IsFrom x y p → InCell c p → how_many (λ s. counts s p) ss ≡ j

abbrev pub SlotsAreEnough : Type 0
SlotsAreEnough = (ss : List Segment) → IsSimpleList ss → (p : Point) → ¬ (OnBoundary ss p)
    → IsBeside (abscissas ss) p ⊎ ((even : Bool) × InCells (slot_cells even ss (abscissas ss)) p)

abbrev pub NoneCountsBeside : Type 0
NoneCountsBeside = (ss : List Segment) (p : Point) → IsBeside (abscissas ss) p → ¬ (OnBoundary ss p) × (how_many (λ s. counts s p) ss ≡ 0)

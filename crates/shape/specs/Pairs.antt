-- The first bad pair of a list of segments: two that cross or run along each other.
--
-- NoneFrom ss i c d              the segment i makes no bad pair with one of the numbers from c on and below d
-- IsNext ss i c d j              j is the first of these that it does so with
-- IsFirstFrom ss i c d best      best is the first of these that it does so with, and None where there is none
-- NoneWithin ss a b c d          there is no bad pair of a number from a on and below b, and one from c on and below d
-- IsFound ss a b c d p           p is the first of these pairs
-- IsFirstWithin ss a b c d best  best is the first of these pairs, and None where there is none
-- sooner_than b best             the number that best begins with, and b where there is none
-- IsFirstBad ss best             best is the first bad pair of ss, and None where there is no bad pair
-- IsFrameOf r ss c d             the segments from c on and below d lie in the rectangle r
-- IsPairFault ss fault           the fault is the first bad pair of ss, by what the two segments share
use Rattle.std.specs.Prelude.{◌≡◌, ℕ, ◌≤◌, ◌<◌, List, Option, Some, None, slice_get}
use Rattle.plane_terms.specs.Rectangle.{Rectangle, IsWithin}
use Rattle.plane_terms.specs.Segment.{Segment, IsSegment, Overlap, box_of}
use Rattle.plane_terms.specs.Share.{CrossOnce}
use Rattle.plane_terms.specs.ShapeFaults.{AreBad, IsPair, IsFirstPair}
use Rattle.plane_terms.specs.declared.shape_fault.ShapeFault.{ShapeFault}
use Rattle.plane_terms.specs.declared.shape_fault.ShapeFault.TheVariants.{TooFew, TooMany, Cross, Along, NoMemory}
use Rattle.shape.specs.declared.pairs.Pair.{Pair}

abbrev pub NoneFrom : List Segment → ℕ → ℕ → ℕ → Type 0
NoneFrom ss i c d = (j : ℕ) → c ≤ j → j < d → ¬ (IsPair AreBad ss i j)

pub record IsNext (ss : List Segment) (i c d j : ℕ) : Type 0 where
  pub pair : IsPair AreBad ss i j
  pub least : c ≤ j
  pub below : j < d
  pub first : NoneFrom ss i c j

abbrev pub IsFirstFrom : List Segment → ℕ → ℕ → ℕ → Option ℕ → Type 0
IsFirstFrom ss i c d None = NoneFrom ss i c d
IsFirstFrom ss i c d (Some j) = IsNext ss i c d j

abbrev pub NoneWithin : List Segment → ℕ → ℕ → ℕ → ℕ → Type 0
NoneWithin ss a b c d = (i : ℕ) → a ≤ i → i < b → NoneFrom ss i c d

pub record IsFound (ss : List Segment) (a b c d : ℕ) (p : Pair) : Type 0 where
  pub least : a ≤ p.i
  pub below : p.i < b
  pub next : IsNext ss p.i c d p.j
  pub first : NoneWithin ss a p.i c d

abbrev pub IsFirstWithin : List Segment → ℕ → ℕ → ℕ → ℕ → Option Pair → Type 0
IsFirstWithin ss a b c d None = NoneWithin ss a b c d
IsFirstWithin ss a b c d (Some p) = IsFound ss a b c d p

abbrev pub sooner_than : ℕ → Option Pair → ℕ
sooner_than b None = b
sooner_than b (Some p) = p.i

abbrev pub IsFirstBad : List Segment → Option Pair → Type 0
IsFirstBad ss None = (i j : ℕ) → ¬ (IsPair AreBad ss i j)
IsFirstBad ss (Some p) = IsFirstPair AreBad ss p.i p.j

abbrev pub IsFrameOf : Rectangle → List Segment → ℕ → ℕ → Type 0
IsFrameOf r ss c d = (j : ℕ) (t : Segment) → c ≤ j → j < d → slice_get ss j ≡ Some t → IsSegment t × IsWithin (box_of t) r

abbrev pub IsPairFault : List Segment → ShapeFault → Type 0
IsPairFault ss (TooFew part) = ⊥
IsPairFault ss (TooMany count) = ⊥
IsPairFault ss (Cross i j) = IsFirstPair CrossOnce ss i j
IsPairFault ss (Along i j) = IsFirstPair Overlap ss i j
IsPairFault ss NoMemory = ⊥

-- What parts that make no shape break, and which of it is named.
--
-- The shape s below is what the parts make when equal neighbours are kept once and closing vertices have gone (`shape_of`).
-- Rings and segments are numbered from 0, part by part and ring by ring; a line's part is one ring.
--
-- least k             the fewest vertices of a ring: 1 of a point, 2 of a line, 3 of a polygon
-- IsShort k ring      the ring has fewer
-- LacksRings s        there is no part at all, or some part has no ring
-- IsFirstOf P xs n    the element n of xs is the first of which P holds
-- IsFew s n           too few: where rings are lacking n is 0, else the ring n is the first short one
-- IsMany s n          too many: n vertices are kept, over 2,000
-- IsBefore a b i j    the pair (a, b) comes before (i, j): in order of the first numbers, then of the second
-- IsPair R ss i j     i < j are numbers of ss, and R holds of the segments there
-- AreBad s t          they cross, at an end of neither, or run along each other
-- IsFirstPair R ss i j     R holds of the pair, and no pair before it is bad
-- IsFault s fault     the fault is the first that applies, in the order in which they stand here; a line has no bad pairs
-- IsFlawless s        none applies
--
-- Out of memory may come at any time, and says nothing of the shape.
-- Source: own; what a valid polygon is differs from OGC 06-103r4 in that rings may touch and are not told apart.
use Rattle.std.specs.Prelude.{◌≡◌, ℕ, zero, suc, ◌<◌, ◌⊎◌, List, [], ◌∷◌, length, Some, slice_get}
use Rattle.plane_terms.specs.Lists.{SomeOf}
use Rattle.plane_terms.specs.Point.{Place}
use Rattle.plane_terms.specs.Segment.{Segment, Overlap}
use Rattle.plane_terms.specs.Shape.{Shape, rings_of, vertices_of, segments_of}
use Rattle.plane_terms.specs.declared.kind.Kind.{Kind}
use Rattle.plane_terms.specs.declared.kind.Kind.TheVariants as kind
use Rattle.plane_terms.specs.Share.{CrossOnce}
use Rattle.plane_terms.specs.declared.shape_fault.ShapeFault.{ShapeFault}
use Rattle.plane_terms.specs.declared.shape_fault.ShapeFault.TheVariants.{TooFew, TooMany, Cross, Along, NoMemory}

abbrev pub least : Kind → ℕ
least kind.Point = 1
least kind.Line = 2
least kind.Polygon = 3

abbrev pub IsShort : Kind → List Place → Type 0
IsShort k ring = length ring < least k

abbrev pub LacksRings : Shape → Type 0
LacksRings s = (s.parts ≡ []) ⊎ SomeOf (λ part. part ≡ []) s.parts

abbrev pub IsFirstOf : {A : Type 0} → (A → Type 0) → List A → ℕ → Type 0
IsFirstOf P [] n = ⊥
IsFirstOf P (x ∷ xs) zero = P x
IsFirstOf P (x ∷ xs) (suc n) = ¬ (P x) × IsFirstOf P xs n

abbrev pub IsFew : Shape → ℕ → Type 0
IsFew s n = (LacksRings s × (n ≡ 0)) ⊎ (¬ (LacksRings s) × IsFirstOf (IsShort s.kind) (rings_of s) n)

abbrev pub IsMany : Shape → ℕ → Type 0
IsMany s n = (n ≡ length (vertices_of s)) × (2000 < n)

abbrev pub IsBefore : ℕ → ℕ → ℕ → ℕ → Type 0
IsBefore a b i j = (a < i) ⊎ ((a ≡ i) × (b < j))

pub record IsPair (R : Segment → Segment → Type 0) (ss : List Segment) (i j : ℕ) : Type 0 where
  pub ordered : i < j
  pub s : Segment
  pub t : Segment
  pub first : slice_get ss i ≡ Some s
  pub second : slice_get ss j ≡ Some t
  pub says : R s t

abbrev pub AreBad : Segment → Segment → Type 0
AreBad s t = CrossOnce s t ⊎ Overlap s t

pub record IsFirstPair (R : Segment → Segment → Type 0) (ss : List Segment) (i j : ℕ) : Type 0 where
  pub pair : IsPair R ss i j
  pub first : (a b : ℕ) → IsBefore a b i j → ¬ (IsPair AreBad ss a b)

abbrev pub NoneFew : Shape → Type 0
NoneFew s = (n : ℕ) → ¬ (IsFew s n)

abbrev pub NoneMany : Shape → Type 0
NoneMany s = (n : ℕ) → ¬ (IsMany s n)

abbrev pub IsFault : Shape → ShapeFault → Type 0
IsFault s (TooFew part) = IsFew s part
IsFault s (TooMany count) = NoneFew s × IsMany s count
IsFault s (Cross i j) = NoneFew s × NoneMany s × (s.kind ≡ kind.Polygon) × IsFirstPair CrossOnce (segments_of s) i j
IsFault s (Along i j) = NoneFew s × NoneMany s × (s.kind ≡ kind.Polygon) × IsFirstPair Overlap (segments_of s) i j
IsFault s NoMemory = Unit {0}

abbrev pub IsFlawless : Shape → Type 0
IsFlawless s = (fault : ShapeFault) → IsFault s fault → fault ≡ NoMemory

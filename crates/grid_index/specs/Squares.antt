-- The squares of the tree: a node holds rectangles whose middles lie in one square, and so do the quarters below it.
-- A square of side 2 to the power k, doubled like the middles, begins at multiples of its side.
--
-- same_square k a b     the test whether a and b lie in one square of side 2 to the power k
-- IsOnGrid m            m is the middle of a rectangle of the grid: both of its numbers are below 2 to the power 25
-- AreInSquare k m ps    the middle of each rectangle of ps lies in the square of side 2 to the power k that m lies in
-- AreAt m ps            the middle of each rectangle of ps is m
-- IsPart k n            n holds something, and all in one square of side 2 to the power k, 32 at most: its middle tells which. A leaf holds
--                       few rectangles, or such with one middle alone. Another node is divided into squares of a smaller side
-- middles_of ns         the middles of the nodes
-- AreParts k ns         each node is such a part, and no two have one square
-- AreAround k m ns      the middles of the nodes lie in the square of side 2 to the power k that m lies in
-- AreOutside k m ns     none of them lies in that square
-- AreQuarters m k ns    the nodes are such parts, in the squares of side 2 to the power k of that square of twice the side that m lies in
-- IsDivided m k ps ns   the nodes are such quarters, and where there are any, ps has nothing: a node holds rectangles itself or by
--                       its quarters, never both
-- MayTake n m           n is a part that a rectangle with the middle m may be put into: m lies in its square
-- StaysPart n o m       o stays the part that n is, in the same square, whichever square that m lies in it is
-- IsLeft k n            n holds nothing, or is a part
-- IsLeftAs b k n        where b is true, n holds nothing, and where not, n is a part
-- AreLeftAs b k ns      the nodes hold nothing or are parts; where b is true, one holds nothing, and where not, none
-- IsTaken ps a b        a leaf with ps, whose square a tells, takes one more with the middle b: ps are few, or it is where they all are
-- IsBetween d m ps      ps and m lie in one square of side 2 to the power d + 1, and in no smaller one
-- IsSingle p n          n is a leaf that holds p alone
-- IsAdded ns os p       os are ns and last a leaf that holds p alone
-- IsPushedAt ns i os p m      os are ns, but that the leaf at i has p last, and the middle m
-- IsPutAt ns i os m     os are ns, but that the node at i has another in its place, which stays the part that it was
-- StayAround k ns os m  os lie in the square of side 2 to the power k that m lies in, if ns do
-- AreGathered k c ns    leaves in squares of side 2 to the power k, no two in one, with no more than c rectangles each
use Rattle.std.specs.Prelude.{◌≡◌, ◌≢◌, ◌⊎◌, ℕ, ◌+◌, ◌/◌, ◌^◌, ◌<◌, ◌≤◌, Bool, true, false, ◌&&◌, List, [], ◌∷◌, ◌++◌, map, set, Contains, length, slice_get, IsSomeAnd, nat_eq}
use Rattle.std.specs.List.{IsDistinct}
use Rattle.plane_terms.specs.Lists.{Every, SomeOf}
use Rattle.grid_index.specs.declared.placed.Placed.{Placed}
use Rattle.grid_index.specs.declared.middle.Middle.{Middle}
use Rattle.grid_index.specs.Middles.{middle_of}
use Rattle.grid_index.specs.Nodes.{NodeView}

abbrev pub same_square : ℕ → Middle → Middle → Bool
same_square k a b = nat_eq (a.x / 2 ^ k) (b.x / 2 ^ k) && nat_eq (a.y / 2 ^ k) (b.y / 2 ^ k)

abbrev pub IsOnGrid : Middle → Type 0
IsOnGrid m = (m.x < 2 ^ 25) × (m.y < 2 ^ 25)

abbrev pub AreInSquare : ℕ → Middle → List Placed → Type 0
AreInSquare k m ps = (p : Placed) → Contains ps p → same_square k m (middle_of p.rect) ≡ true

abbrev pub AreAt : Middle → List Placed → Type 0
AreAt m ps = (p : Placed) → Contains ps p → middle_of p.rect ≡ m

pub record IsPart (k : ℕ) (n : NodeView) : Type 0 where
  pub low : k ≤ 32
  pub filled : n.items ≢ []
  pub on_grid : IsOnGrid n.middle
  pub inside : AreInSquare k n.middle n.items
  pub few : n.height ≡ 0 → (length n.items + k ≤ 64) ⊎ AreAt n.middle n.items
  pub smaller : n.height ≢ 0 → n.digit < k

abbrev pub middles_of : List NodeView → List Middle
middles_of ns = map (λ (n : NodeView). n.middle) ns

abbrev pub AreParts : ℕ → List NodeView → Type 0
AreParts k ns = Every (IsPart k) ns × IsDistinct (same_square k) (middles_of ns)

abbrev pub AreAround : ℕ → Middle → List NodeView → Type 0
AreAround k m ns = Every (λ (n : NodeView). same_square k m n.middle ≡ true) ns

abbrev pub AreOutside : ℕ → Middle → List NodeView → Type 0
AreOutside k m ns = Every (λ (n : NodeView). same_square k m n.middle ≡ false) ns

abbrev pub AreQuarters : Middle → ℕ → List NodeView → Type 0
AreQuarters m k ns = AreParts k ns × AreAround (k + 1) m ns

abbrev pub IsDivided : Middle → ℕ → List Placed → List NodeView → Type 0
IsDivided m k ps ns = AreQuarters m k ns × ((ns ≡ []) ⊎ (ps ≡ []))

abbrev pub MayTake : NodeView → Middle → Type 0
MayTake n m = (k : ℕ) × IsPart k n × (same_square k n.middle m ≡ true)

abbrev pub StaysPart : NodeView → NodeView → Middle → Type 0
StaysPart n o m = (k : ℕ) → IsPart k n → same_square k n.middle m ≡ true → IsPart k o × (same_square k n.middle o.middle ≡ true)

abbrev pub IsLeft : ℕ → NodeView → Type 0
IsLeft k n = (n.items ≡ []) ⊎ IsPart k n

abbrev pub IsLeftAs : Bool → ℕ → NodeView → Type 0
IsLeftAs true k n = n.items ≡ []
IsLeftAs false k n = IsPart k n

abbrev pub AreLeftAs : Bool → ℕ → List NodeView → Type 0
AreLeftAs true k ns = Every (IsLeft k) ns × SomeOf (λ (n : NodeView). n.items ≡ []) ns
AreLeftAs false k ns = Every (IsPart k) ns

abbrev pub IsTaken : List Placed → Middle → Middle → Type 0
IsTaken ps a b = (length ps < 32) ⊎ (((64 < length ps) × (a ≡ b)) ⊎ AreAt b ps)

abbrev pub IsBetween : ℕ → Middle → List Placed → Type 0
IsBetween d m ps = AreInSquare (d + 1) m ps × ((k : ℕ) → AreInSquare k m ps → d < k)

pub record IsSingle (p : Placed) (n : NodeView) : Type 0 where
  pub items : n.items ≡ p ∷ []
  pub middle : n.middle ≡ middle_of p.rect
  pub on_grid : IsOnGrid n.middle
  pub leaf : n.height ≡ 0

pub record IsGathered (k : ℕ) (c : ℕ) (n : NodeView) : Type 0 where
  pub first : (p : Placed) × Contains n.items p × (n.middle ≡ middle_of p.rect)
  pub on_grid : IsOnGrid n.middle
  pub inside : AreInSquare k n.middle n.items
  pub leaf : n.height ≡ 0
  pub few : length n.items ≤ c

abbrev pub IsAdded : List NodeView → List NodeView → Placed → Type 0
IsAdded ns os p = (n : NodeView) × (os ≡ ns ++ n ∷ []) × IsSingle p n

abbrev pub IsPushedAt : List NodeView → ℕ → List NodeView → Placed → Middle → Type 0
IsPushedAt ns i os p m = IsSomeAnd (slice_get ns i) (λ (n : NodeView). (o : NodeView) × (os ≡ set ns i o) × (o.items ≡ n.items ++ p ∷ [])
    × (o.middle ≡ m) × (o.height ≡ 0))

abbrev pub IsPutAt : List NodeView → ℕ → List NodeView → Middle → Type 0
IsPutAt ns i os m = IsSomeAnd (slice_get ns i) (λ (n : NodeView). (o : NodeView) × (os ≡ set ns i o) × StaysPart n o m)

abbrev pub StayAround : ℕ → List NodeView → List NodeView → Middle → Type 0
StayAround k ns os m = (a : Middle) → same_square k a m ≡ true → AreAround k a ns → AreAround k a os

abbrev pub AreGathered : ℕ → ℕ → List NodeView → Type 0
AreGathered k c ns = Every (IsGathered k c) ns × IsDistinct (same_square k) (middles_of ns)

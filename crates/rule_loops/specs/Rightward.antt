-- What lasts a little way to the right: where a point is in a set, so are the points near enough to its right.
--
-- moved m p            the point 1 / m to the right of p, where m is not 0
-- LastsRight P         where P holds of p, it holds of each point to the right of p by 1 / m, from some m on
-- IsStrict c           each half-plane of c is open
-- is_wall c            the first half-plane of c is a line
-- IsOff q d            d is no wall, and q is in it
-- AreOffWalls ds       a cell of ds that is no wall is strict, and a little right of each point of ds lies one that is no wall
--
-- An open set is one. So is the outside of a polygon: right of each wall lies a column with the same slots. Source: own.
use Rattle.std.specs.Prelude.{◌≡◌, ℕ, ◌*◌, ◌<◌, ◌≤◌, pos, ◌+ℤ◌, ◌*ℤ◌, Bool, true, false, List, [], ◌∷◌}
use Rattle.std.proofs.Math.Nat.{mul-pos}
use Rattle.plane_terms.specs.Lists.{Every, SomeOf}
use Rattle.plane_terms.specs.Point.{Point}
use Rattle.plane_terms.specs.HalfPlane.{HalfPlane}
use Rattle.plane_terms.specs.Cell.{Cell, InCell, InCells}
use Rattle.plane_terms.specs.declared.op.Op.{Op}
use Rattle.plane_terms.specs.declared.op.Op.TheVariants.{Over, AtLeast, Zero}

abbrev pub moved : (m : ℕ) → 0 < m → Point → Point
moved m o p = record { x = p.x *ℤ pos m +ℤ pos p.w; y = p.y *ℤ pos m; w = p.w * m; positive = mul-pos p.positive o }

abbrev pub LastsRight : (Point → Type 0) → Type 0
LastsRight P = (p : Point) → P p → (k : ℕ) × ((m : ℕ) (o : 0 < m) → k ≤ m → P (moved m o p))

abbrev pub IsStrict : Cell → Type 0
IsStrict c = Every (λ (h : HalfPlane). h.op ≡ Over) c

abbrev pub is_line : Op → Bool
is_line Over = false
is_line AtLeast = false
is_line Zero = true

abbrev pub is_wall : Cell → Bool
is_wall [] = false
is_wall (h ∷ hs) = is_line h.op

abbrev pub IsOff : Point → Cell → Type 0
IsOff q d = (is_wall d ≡ false) × InCell d q

pub record AreOffWalls (ds : List Cell) : Type 0 where
  pub strict : Every (λ (d : Cell). is_wall d ≡ false → IsStrict d) ds
  pub beside : (p : Point) → InCells ds p → (k : ℕ) × ((m : ℕ) (o : 0 < m) → k ≤ m → SomeOf (IsOff (moved m o p)) ds)

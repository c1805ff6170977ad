-- How the corners of several cells are listed.
--
-- IsLowestPair n d  no number above 1 divides both
-- IsInLowest f      the fraction is in lowest terms, and its denominator above 0
-- LiesAt p k        the corner k lies at the point p
-- IsLess f g, IsLevel f g     the fraction f is below g; it has the same value
-- IsBefore k l      k has the lesser abscissa, or the same one and the lesser ordinate
-- IsTold i k        k is one of the cell number i, in lowest terms
-- AreTold i c ks    ks are the corners of c, which has the number i: each of them and no other point, ascending, so none twice
-- AreOfCell i c ks  so where c has a point, and none where it has none
-- AreOfCells i cs ks     ks are those of the first cell, which has the number i, and behind them those of the cells that follow
--
-- A corner of two cells is listed of both. Cells have one list of corners. Source: own.
use Rattle.std.specs.Prelude.{◌≡◌, ◌↔◌, ◌⊎◌, ◌<◌, ℕ, suc, ℤ, pos, ◌*ℤ◌, ◌<ℤ◌, unsigned_abs, List, [], ◌∷◌, ◌++◌}
use Prim.Native.Nat.{◌∣◌}
use Rattle.plane_terms.specs.Lists.{Every, SomeOf, EveryPair}
use Rattle.plane_terms.specs.Point.{Point}
use Rattle.plane_terms.specs.Cell.{Cell, HasPoint}
use Rattle.plane_terms.specs.Corners.{IsCorner}
use Rattle.corner_terms.specs.declared.cell_corner.Fraction.{Fraction}
use Rattle.corner_terms.specs.declared.cell_corner.CellCorner.{CellCorner}

abbrev pub IsLowestPair : ℤ → ℕ → Type 0
IsLowestPair n d = (e : ℕ) → e ∣ unsigned_abs n → e ∣ d → e ≡ 1

pub record IsInLowest (f : Fraction) : Type 0 where
  pub over : 0 < f.d
  pub lowest : IsLowestPair f.n f.d

pub record LiesAt (p : Point) (k : CellCorner) : Type 0 where
  pub x : k.x.n *ℤ pos p.w ≡ p.x *ℤ pos k.x.d
  pub y : k.y.n *ℤ pos p.w ≡ p.y *ℤ pos k.y.d

abbrev pub IsLess : Fraction → Fraction → Type 0
IsLess f g = (f.n *ℤ pos g.d) <ℤ (g.n *ℤ pos f.d)

abbrev pub IsLevel : Fraction → Fraction → Type 0
IsLevel f g = f.n *ℤ pos g.d ≡ g.n *ℤ pos f.d

abbrev pub IsBefore : CellCorner → CellCorner → Type 0
IsBefore k l = IsLess k.x l.x ⊎ (IsLevel k.x l.x × IsLess k.y l.y)

pub record IsTold (i : ℕ) (k : CellCorner) : Type 0 where
  pub cell : k.cell ≡ i
  pub x : IsInLowest k.x
  pub y : IsInLowest k.y

pub record AreTold (i : ℕ) (c : Cell) (ks : List CellCorner) : Type 0 where
  pub told : Every (IsTold i) ks
  pub ascending : EveryPair IsBefore ks
  pub exact : (p : Point) → IsCorner c p ↔ SomeOf (LiesAt p) ks

abbrev pub AreOfCell : ℕ → Cell → List CellCorner → Type 0
AreOfCell i c ks = (HasPoint c × AreTold i c ks) ⊎ (¬ (HasPoint c) × (ks ≡ []))

abbrev pub AreOfCells : ℕ → List Cell → List CellCorner → Type 0
AreOfCells i [] ks = ks ≡ []
AreOfCells i (c ∷ cs) ks = (first rest : List CellCorner) × (ks ≡ first ++ rest) × AreOfCell i c first × AreOfCells (suc i) cs rest

-- The intervals between the ordinates of a wall.
use Rattle.std.proofs.Common.{◌≡◌, ℤ, pos, ◌*ℤ◌, ◌≤ℤ◌, ◌<ℤ◌, arith, sym, refl, ◌⊎◌, inl, inr, ◌∙◌, Bool, true, false, cond, List, [], ◌∷◌}
use Rattle.std.proofs.Common.{Option, Some, None}
use Rattle.std.proofs.lemmas.Int.{ints}
use Rattle.std.proofs.lemmas.Bool.{false≢true}
use Rattle.plane_terms.specs.Point.{Point}
use Rattle.plane_terms.specs.HalfPlane.{y_over, y_under}
use Rattle.plane_terms.specs.Cell.{InCells}
use Rattle.plane_terms.specs.Columns.{intervals}
use Rattle.plane_terms.specs.Lists.{Every}
use Rattle.column_laws.specs.Rising.{IsRising}
use Rattle.plane_terms.proofs.ListLemmas.{every_among, IsAmong}
use Rattle.number_laws.proofs.Order.{cases_order_ℤ, scaled_le}
use Rattle.cell_laws.proofs.GridLines.{y_over_holds, y_under_holds}

-- c is at most the number before, or among those to come
abbrev pub StandsAt : Option ℤ → List ℤ → ℤ → Type 0
StandsAt None ys c = IsAmong c ys
StandsAt (Some a) ys c = (c ≤ℤ a) ⊎ IsAmong c ys

abbrev pub RisesFrom : Option ℤ → List ℤ → Type 0
RisesFrom None ys = IsRising ys
RisesFrom (Some a) ys = IsRising (a ∷ ys)

pub StandsAt-next : (before : Option ℤ) (b : ℤ) (bs : List ℤ) → RisesFrom before (b ∷ bs) → (c : ℤ) → StandsAt before (b ∷ bs) c
    → StandsAt (Some b) bs c
StandsAt-next None b bs r c (inl e) = inl (omega (arith, ints))
StandsAt-next None b bs r c (inr m) = inr m
StandsAt-next (Some a) b bs r c (inl h) = inl (omega (arith, ints, h, r.0.0))
StandsAt-next (Some a) b bs r c (inr (inl e)) = inl (omega (arith, ints))
StandsAt-next (Some a) b bs r c (inr (inr m)) = inr m

RisesFrom-next : (before : Option ℤ) (b : ℤ) (bs : List ℤ) → RisesFrom before (b ∷ bs) → RisesFrom (Some b) bs
RisesFrom-next None b bs r = r
RisesFrom-next (Some a) b bs r = r.1

-- one of an ascending list is at least its first
pub from_first : (b : ℤ) (bs : List ℤ) → IsRising (b ∷ bs) → (c : ℤ) → IsAmong c (b ∷ bs) → b ≤ℤ c
from_first b bs r c (inl e) = omega (arith, ints)
from_first b bs r c (inr m) = let h : b <ℤ c = every_among (λ y. b <ℤ y) bs r.0 c m in omega (arith, ints)

-- a point of an interval is in no closed range between two of the ordinates that is covered
module _ (covered : ℤ → ℤ → Bool) (p : Point) (c d : ℤ) (by : (a b : ℤ) → c ≤ℤ a → a <ℤ b → b ≤ℤ d
    → covered a b ≡ true) (low : (c *ℤ pos p.w) ≤ℤ p.y) (high : p.y ≤ℤ (d *ℤ pos p.w)) where
  not_under : (b : ℤ) → p.y <ℤ (b *ℤ pos p.w) → b ≤ℤ c → ⊥
  not_under b h k = omega (arith, ints, scaled_le b c p.w k, h, low)

  not_over : (a : ℤ) → (a *ℤ pos p.w) <ℤ p.y → d ≤ℤ a → ⊥
  not_over a h k = omega (arith, ints, scaled_le d a p.w k, h, high)

  pub intervals_out : (before : Option ℤ) (ys : List ℤ) → RisesFrom before ys → StandsAt before ys c → StandsAt before ys d
      → InCells (intervals covered before ys) p → ⊥
  intervals_out None [] r m n h = m
  intervals_out (Some a) [] r m (inl n) (inl h) = not_over a ((y_over_holds a p).0 h.0) n
  intervals_out (Some a) [] r m (inr n) (inl h) = n
  intervals_out (Some a) [] r m n (inr h) = h
  intervals_out None (b ∷ bs) r m n (inl h) = not_under b ((y_under_holds b p).0 h.0) (from_first b bs r c m)
  intervals_out None (b ∷ bs) r m n (inr h) = intervals_out (Some b) bs (RisesFrom-next None b bs r) (StandsAt-next None b bs r c m)
      (StandsAt-next None b bs r d n) h
  intervals_out (Some a) (b ∷ bs) r m n h = by_cases (covered a b) refl m n
      (λ k. intervals_out (Some b) bs (RisesFrom-next (Some a) b bs r) (StandsAt-next (Some a) b bs r c m)
      (StandsAt-next (Some a) b bs r d n) k) h
    where
      first : covered a b ≡ false → StandsAt (Some a) (b ∷ bs) c → StandsAt (Some a) (b ∷ bs) d → (a *ℤ pos p.w) <ℤ p.y
          → p.y <ℤ (b *ℤ pos p.w) → ⊥
      first e (inl m) (inl n) h k = not_over a h n
      first e (inl m) (inr n) h k = false≢true (sym e ∙ by a b m r.0.0 (from_first b bs r.1 d n))
      first e (inr m) n h k = not_under b k (from_first b bs r.1 c m)

      by_cases : (t : Bool) → covered a b ≡ t → StandsAt (Some a) (b ∷ bs) c → StandsAt (Some a) (b ∷ bs) d
          → (InCells (intervals covered (Some b) bs) p → ⊥)
          → InCells (cond t (intervals covered (Some b) bs) ((y_over a ∷ y_under b ∷ []) ∷ intervals covered (Some b) bs)) p → ⊥
      by_cases true e m n f h = f h
      by_cases false e m n f (inl h) = first e m n ((y_over_holds a p).0 h.0) ((y_under_holds b p).0 h.1.0)
      by_cases false e m n f (inr h) = f h

-- the other way: a point that is at no ordinate, and in no covered range, lies in an interval
abbrev pub IsPast : Option ℤ → Point → Type 0
IsPast None p = Unit {0}
IsPast (Some a) p = (a *ℤ pos p.w) <ℤ p.y

module _ (covered : ℤ → ℤ → Bool) (p : Point) (free : (a b : ℤ) → covered a b ≡ true → (a *ℤ pos p.w) <ℤ p.y → p.y <ℤ (b *ℤ pos p.w)
    → ⊥) where
  side : (b : ℤ) → ¬ (p.y ≡ b *ℤ pos p.w) → (p.y <ℤ (b *ℤ pos p.w)) ⊎ ((b *ℤ pos p.w) <ℤ p.y)
  side b n = by_order p.y (b *ℤ pos p.w) n (cases_order_ℤ p.y (b *ℤ pos p.w))
    where
      by_order : (u v : ℤ) → ¬ (u ≡ v) → (u <ℤ v) ⊎ (v ≤ℤ u) → (u <ℤ v) ⊎ (v <ℤ u)
      by_order u v n (inl h) = inl h
      by_order u v n (inr h) = inr (omega (arith, ints))

  pub intervals_in : (before : Option ℤ) (ys : List ℤ) → IsPast before p → Every (λ b. ¬ (p.y ≡ b *ℤ pos p.w)) ys
      → InCells (intervals covered before ys) p
  intervals_in None [] h n = inl tt
  intervals_in (Some a) [] h n = inl ((y_over_holds a p).1 h, tt)
  intervals_in None (b ∷ bs) h n = elim (side b n.0) [
    | inl k ↦ inl ((y_under_holds b p).1 k, tt)
    | inr k ↦ inr
        (intervals_in (Some b) bs k n.1)
  ]
  intervals_in (Some a) (b ∷ bs) h n = by_cases (covered a b) refl (side b n.0) (λ k. intervals_in (Some b) bs k n.1)
    where
      by_cases : (t : Bool) → covered a b ≡ t → (p.y <ℤ (b *ℤ pos p.w)) ⊎ ((b *ℤ pos p.w) <ℤ p.y)
          → (IsPast (Some b) p → InCells (intervals covered (Some b) bs) p)
          → InCells (cond t (intervals covered (Some b) bs) ((y_over a ∷ y_under b ∷ []) ∷ intervals covered (Some b) bs)) p
      by_cases true e (inl k) f = absurd (free a b e h k)
      by_cases true e (inr k) f = f k
      by_cases false e (inl k) f = inl ((y_over_holds a p).1 h, ((y_under_holds b p).1 k, tt))
      by_cases false e (inr k) f = inr (f k)

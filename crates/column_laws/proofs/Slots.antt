-- The slots between ordered segments: a point of one is on no segment, and the number of those below it is the slot's.
use Rattle.std.proofs.Common.{◌≡◌, ℕ, zero, suc, ℤ, pos, neg_ℤ, ◌≤ℤ◌, ◌<ℤ◌, arith, sym, subst, ap, refl, ◌⊎◌, inl, inr, ◌∙◌, Bool, true}
use Rattle.std.proofs.Common.{false, not, List, [], ◌∷◌, ◌++◌, Option, Some, None}
use Rattle.std.proofs.lemmas.Int.{ints}
use Rattle.std.proofs.lemmas.Bool.{false≢true}
use Rattle.std.specs.Int.RustNames.{int_lt}
use Rattle.plane_terms.specs.Point.{Point}
use Rattle.plane_terms.specs.Lists.{Every, how_many, is_odd}
use Rattle.plane_terms.specs.HalfPlane.{Holds, value_at}
use Rattle.plane_terms.specs.Segment.{Segment, cross, left_of, right_of}
use Rattle.plane_terms.specs.Cell.{Cell, InCell, InCells}
use Rattle.plane_terms.specs.Columns.{over, slots}
use Rattle.plane_terms.proofs.ListLemmas.{every_map}
use Rattle.cell_laws.proofs.Lists.{all_append}
use Rattle.column_laws.specs.Slots.{IsAcross, slot_at}
use Rattle.cell_laws.proofs.HalfPlanes.{left_value, right_value}
use Rattle.column_laws.proofs.Segments.{Lower}
use Rattle.column_laws.proofs.Order.{Chain}
use Rattle.number_laws.proofs.Order.{cases_order_ℤ}

-- a point above a segment, by its test
abbrev pub is_above : Point → Segment → Bool
is_above p s = int_lt (pos 0) (cross s p)

abbrev pub IsOff : Point → List Segment → Type 0
IsOff p ss = Every (λ s. ¬ (cross s p ≡ pos 0)) ss

-- how many are below the point
abbrev pub below_it : Point → List Segment → ℕ
below_it p ss = how_many (is_above p) ss

abbrev pub IsOver : Option Segment → Point → Type 0
IsOver None p = Unit {0}
IsOver (Some s) p = pos 0 <ℤ value_at (left_of s) p

abbrev pub LowerThan : ℤ → ℤ → Option Segment → List Segment → Type 0
LowerThan x y None ss = Unit {0}
LowerThan x y (Some s) ss = Every (Lower x y s) ss

pub IsIn-append : (c d : Cell) (p : Point) → InCell c p → InCell d p → InCell (c ++ d) p
IsIn-append c d p h k = (all_append (λ e. Holds e p) c d).1 (h, k)

pub IsIn-left : (c d : Cell) (p : Point) → InCell (c ++ d) p → InCell c p
IsIn-left c d p h = ((all_append (λ e. Holds e p) c d).0 h).0

pub IsIn-right : (c d : Cell) (p : Point) → InCell (c ++ d) p → InCell d p
IsIn-right c d p h = ((all_append (λ e. Holds e p) c d).0 h).1

-- what the halves say
over_out : (b : Option Segment) (p : Point) → InCell (over b) p → IsOver b p
over_out None p h = tt
over_out (Some s) p h = h.0

over_in : (b : Option Segment) (p : Point) → IsOver b p → InCell (over b) p
over_in None p h = tt
over_in (Some s) p h = (h, tt)

under_out : (s : Segment) (p : Point) → pos 0 <ℤ value_at (right_of s) p → value_at (left_of s) p <ℤ pos 0
under_out s p h = by_neg (value_at (right_of s) p) (cross s p) (value_at (left_of s) p) (right_value s p) (left_value s p) h
  where
    by_neg : (r c l : ℤ) → r ≡ neg_ℤ c → l ≡ c → pos 0 <ℤ r → l <ℤ pos 0
    by_neg r c l e f h = omega (arith, ints)

under_in : (s : Segment) (p : Point) → cross s p <ℤ pos 0 → pos 0 <ℤ value_at (right_of s) p
under_in s p h = by_neg (value_at (right_of s) p) (cross s p) (right_value s p) h
  where
    by_neg : (r c : ℤ) → r ≡ neg_ℤ c → c <ℤ pos 0 → pos 0 <ℤ r
    by_neg r c e h = omega (arith, ints)

-- a point under a segment is above none, and on none
under_test : (s : Segment) (p : Point) → value_at (left_of s) p <ℤ pos 0 → (is_above p s ≡ false) × ¬ (cross s p ≡ pos 0)
under_test s p h = by_sign (value_at (left_of s) p) (cross s p) (left_value s p) h
  where
    by_sign : (l c : ℤ) → l ≡ c → l <ℤ pos 0 → (int_lt (pos 0) c ≡ false) × ¬ (c ≡ pos 0)
    by_sign l c e h = (grind (arith, ints), λ z. omega (arith, ints))

over_test : (s : Segment) (p : Point) → pos 0 <ℤ value_at (left_of s) p → (is_above p s ≡ true) × ¬ (cross s p ≡ pos 0)
over_test s p h = by_sign (value_at (left_of s) p) (cross s p) (left_value s p) h
  where
    by_sign : (l c : ℤ) → l ≡ c → pos 0 <ℤ l → (int_lt (pos 0) c ≡ true) × ¬ (c ≡ pos 0)
    by_sign l c e h = (grind (arith, ints), λ z. omega (arith, ints))

-- a point under each
all_under : (p : Point) (ss : List Segment) → Every (λ s. value_at (left_of s) p <ℤ pos 0) ss → IsOff p ss × (below_it p ss ≡ 0)
all_under p [] h = (tt, refl)
all_under p (s ∷ ss) h =
    let t = under_test s p h.0 in
    let r = all_under p ss h.1 in
    ((t.1, r.0), rw t.0 r.1)

-- one more below
count_over : (p : Point) (s : Segment) (ss : List Segment) → is_above p s ≡ true → (t : Bool) → is_odd (below_it p ss) ≡ not t
    → is_odd (below_it p (s ∷ ss)) ≡ t
count_over p s ss e true h = rw (e, h) refl
count_over p s ss e false h = rw (e, h) refl

same_some : {A : Type 0} {u v : A} → Some u ≡ Some v → u ≡ v
same_some e = cc

none_some : {A : Type 0} {v : A} → None ≡ Some v → ⊥
none_some e = cc

module _ (x y : ℤ) where
  pub record Placed (take : Bool) (below : Option Segment) (ss : List Segment) (p : Point) : Type 0 where
    pub over : IsOver below p
    pub off : IsOff p ss
    pub parity : is_odd (below_it p ss) ≡ not take

  over_before : (b : Option Segment) (s : Segment) (ss : List Segment) → LowerThan x y b (s ∷ ss) → (p : Point) → IsAcross x y p
      → pos 0 <ℤ value_at (left_of s) p → IsOver b p
  over_before None s ss l p a h = tt
  over_before (Some b) s ss l p a h = l.0.over p a h

  in_first : (b : Option Segment) (s : Segment) (ss : List Segment) → Chain x y (s ∷ ss) → (p : Point) → IsAcross x y p → IsOver b p
      → value_at (left_of s) p <ℤ pos 0 → Placed true b (s ∷ ss) p
  in_first b s ss c p a o u =
      let r = all_under p (s ∷ ss) (u, every_map (Lower x y s) (λ t. value_at (left_of t) p <ℤ pos 0) (λ t st. st.under p a u) ss c.0) in
      record { over = o; off = r.0; parity = rw r.1 refl }

  in_rest : (take : Bool) (b : Option Segment) (s : Segment) (ss : List Segment) → LowerThan x y b (s ∷ ss) → (p : Point) → IsAcross x y p
      → Placed (not take) (Some s) ss p → Placed take b (s ∷ ss) p
  in_rest take b s ss l p a r =
      let t = over_test s p r.over in
      record { over = over_before b s ss l p a r.over; off = (t.1, r.off); parity = count_over p s ss t.0 (not take) r.parity }

  -- a point of a slot
  pub slots_out : (take : Bool) (b : Option Segment) (ss : List Segment) → Chain x y ss → LowerThan x y b ss → (p : Point)
      → IsAcross x y p → InCells (slots take b ss) p → Placed take b ss p
  slots_out true b [] c l p a (inl h) = record { over = over_out b p h; off = tt; parity = refl }
  slots_out true b [] c l p a (inr h) = absurd h
  slots_out false b [] c l p a h = absurd h
  slots_out true b (s ∷ ss) c l p a (inl h) = in_first b s ss c p a (over_out b p (IsIn-left (over b) (right_of s ∷ []) p h))
      (under_out s p (IsIn-right (over b) (right_of s ∷ []) p h).0)
  slots_out true b (s ∷ ss) c l p a (inr h) = in_rest true b s ss l p a (slots_out false (Some s) ss c.1 c.0 p a h)
  slots_out false b (s ∷ ss) c l p a h = in_rest false b s ss l p a (slots_out true (Some s) ss c.1 c.0 p a h)

  -- of the slot j, and j segments are below
  pub slot_counts : (j : ℕ) (b : Option Segment) (ss : List Segment) (d : Cell) → slot_at j b ss ≡ Some d → Chain x y ss
      → LowerThan x y b ss → (p : Point) → IsAcross x y p → InCell d p → IsOver b p × (below_it p ss ≡ j)
  slot_counts zero b [] d e c l p a h = (over_out b p (subst (λ g. InCell g p) (sym (same_some e)) h), refl)
  slot_counts zero b (s ∷ ss) d e c l p a h =
      let k = subst (λ g. InCell g p) (sym (same_some e)) h in
      let u = under_out s p (IsIn-right (over b) (right_of s ∷ []) p k).0 in
      let each = every_map (Lower x y s) (λ t. value_at (left_of t) p <ℤ pos 0) (λ t st. st.under p a u) ss c.0 in
      (over_out b p (IsIn-left (over b) (right_of s ∷ []) p k), (all_under p (s ∷ ss) (u, each)).1)
  slot_counts (suc j) b [] d e c l p a h = absurd (none_some e)
  slot_counts (suc j) b (s ∷ ss) d e c l p a h =
      let r = slot_counts j (Some s) ss d e c.1 c.0 p a h in
      (over_before b s ss l p a r.0, rw (over_test s p r.0).0 (ap suc r.1))

  -- the point is above or under the first
  sides : (s : Segment) (p : Point) → ¬ (cross s p ≡ pos 0) → (pos 0 <ℤ value_at (left_of s) p) ⊎ (value_at (left_of s) p <ℤ pos 0)
  sides s p n = by_sign (value_at (left_of s) p) (cross s p) (left_value s p) n (cases_order_ℤ (pos 0) (cross s p))
    where
      by_sign : (l c : ℤ) → l ≡ c → ¬ (c ≡ pos 0) → (pos 0 <ℤ c) ⊎ (c ≤ℤ pos 0) → (pos 0 <ℤ l) ⊎ (l <ℤ pos 0)
      by_sign l c e n (inl h) = inl (omega (arith, ints))
      by_sign l c e n (inr h) = inr (omega (arith, ints))

  uncount : (p : Point) (s : Segment) (ss : List Segment) → is_above p s ≡ true → (t : Bool) → is_odd (below_it p (s ∷ ss)) ≡ t
      → is_odd (below_it p ss) ≡ not t
  uncount p s ss e t h = by_not (is_odd (below_it p ss)) t (sym (ap is_odd (counted p s ss e)) ∙ h)
    where
      counted : (p : Point) (s : Segment) (ss : List Segment) → is_above p s ≡ true → below_it p (s ∷ ss) ≡ suc (below_it p ss)
      counted p s ss e = rw e refl

      by_not : (u t : Bool) → not u ≡ t → u ≡ not t
      by_not true t e = ap not e
      by_not false t e = ap not e

  -- a point that is on none lies in the slot of its number
  pub slots_in : (take : Bool) (b : Option Segment) (ss : List Segment) → Chain x y ss → (p : Point) → IsAcross x y p → Placed take b ss p
      → InCells (slots take b ss) p
  slots_in true b [] c p a h = inl (over_in b p h.over)
  slots_in false b [] c p a h = absurd (false≢true h.parity)
  slots_in true b (s ∷ ss) c p a h =
      elim (sides s p h.off.0) [
        | inl k ↦ inr (slots_in false (Some s) ss c.1 p a
            (record { over = k; off = h.off.1; parity = uncount p s ss (over_test s p k).0 false h.parity }))
        | inr k ↦ inl (IsIn-append (over b) (right_of s ∷ []) p (over_in b p h.over)
            (under_in s p (subst (λ v. v <ℤ pos 0) (left_value s p) k), tt))
      ]
  slots_in false b (s ∷ ss) c p a h =
      elim (sides s p h.off.0) [
        | inl k ↦ slots_in true (Some s) ss c.1 p a
            (record { over = k; off = h.off.1; parity = uncount p s ss (over_test s p k).0 true h.parity })
        | inr k ↦ absurd (false≢true (sym
            (ap is_odd (all_under p (s ∷ ss) (
              k,
              every_map (Lower x y s) (λ t. value_at (left_of t) p <ℤ pos 0)
                  (λ t st. st.under p a k) ss c.0,
            )).1) ∙ h.parity))
      ]

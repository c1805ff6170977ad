-- Of stretches that are stacked, a slot has no point with those before one that ends below it, nor with those after one that begins
-- above it. What it has no point with leaves no cell.
use Rattle.std.proofs.Common.{◌≡◌, ℕ, zero, suc, ◌+◌, ◌<◌, ℤ, arith, sym, subst, ap, refl, ◌∙◌, List, [], ◌∷◌, ◌++◌}
use Rattle.std.proofs.Common.{◌⊎◌, inl, inr, length, get_or, take, drop, map, ◌-◌, take_all, le_refl}
use Rattle.std.proofs.lemmas.List.{drop_more, get_or_default, length-drop}
use Rattle.plane_terms.specs.Point.{Point}
use Rattle.plane_terms.specs.Lists.{Every, EveryPair}
use Rattle.plane_terms.specs.Cell.{InCell}
use Rattle.plane_terms.specs.HalfPlane.{Holds, x_is}
use Rattle.plane_terms.specs.Carve.{kept}
use Rattle.plane_terms.specs.Columns.{at_wall}
use Rattle.plane_terms.proofs.ListLemmas.{every_left, every_right, every_at, every_map}
use Rattle.convex_cell.proofs.Empty.{no_point}
use Rattle.column_cut.specs.declared.intervals.Stretch.{Stretch}
use Rattle.column_cut.specs.declared.slots.Slot.{Slot}
use Rattle.column_cut.specs.Pieces.{all_of, above, below, slot_cell, stretch_cell}
use Rattle.column_cut.specs.Stretches.{LiesBelow, AreStacked, IsApart}

-- ---- pairs of a list
pair_at : {A : Type 0} (R : A → A → Type 0) (xs : List A) (i j : ℕ) (d : A) → EveryPair R xs → i < j → j < length xs
    → R (get_or xs i d) (get_or xs j d)
pair_at R [] i j d h l n = absurd (omega arith)
pair_at R (x ∷ xs) i zero d h l n = absurd (omega arith)
pair_at R (x ∷ xs) zero (suc j) d h l n = every_at (R x) xs j d h.0 (omega arith)
pair_at R (x ∷ xs) (suc i) (suc j) d h l n = pair_at R xs i j d h.1 (omega arith) (omega arith)

pub stacked_drop : (n : ℕ) (ss : List Stretch) → AreStacked ss → AreStacked (drop n ss)
stacked_drop zero ss h = h
stacked_drop (suc n) [] h = tt
stacked_drop (suc n) (s ∷ ss) h = stacked_drop n ss h.1

pub rest_from : (n : ℕ) (ss : List Stretch) → take (length ss - n) (drop n ss) ≡ drop n ss
rest_from n ss = rw (← length-drop n ss) (take_all (length (drop n ss)) (drop n ss) (le_refl (length (drop n ss))))

module _ (x : ℤ) (slot : Slot) where
  -- the stretch s ends where the slot has not begun; it begins where the slot has ended
  abbrev EndsBelow : Stretch → Type 0
  EndsBelow s = (p : Point) → Holds (x_is x) p → InCell (all_of slot.over) p → ¬ (InCell (below s.high) p)

  abbrev BeginsAbove : Stretch → Type 0
  BeginsAbove s = (p : Point) → Holds (x_is x) p → InCell (all_of slot.under) p → ¬ (InCell (above s.low) p)

  below_apart : (s : Stretch) → EndsBelow s → IsApart x slot s
  below_apart s ends h =
      let in_slot = every_left (λ g. Holds g h.0) (slot_cell slot) (stretch_cell s) h.1.1 in
      let in_stretch = every_right (λ g. Holds g h.0) (slot_cell slot) (stretch_cell s) h.1.1 in
      ends h.0 h.1.0 (every_left (λ g. Holds g h.0) (all_of slot.over) (all_of slot.under) in_slot)
      (every_right (λ g. Holds g h.0) (above s.low) (below s.high) in_stretch)

  above_apart : (s : Stretch) → BeginsAbove s → IsApart x slot s
  above_apart s begins h =
      let in_slot = every_left (λ g. Holds g h.0) (slot_cell slot) (stretch_cell s) h.1.1 in
      let in_stretch = every_right (λ g. Holds g h.0) (slot_cell slot) (stretch_cell s) h.1.1 in
      begins h.0 h.1.0 (every_right (λ g. Holds g h.0) (all_of slot.over) (all_of slot.under) in_slot)
      (every_left (λ g. Holds g h.0) (above s.low) (below s.high) in_stretch)

  -- ---- below one that ends below the slot
  pub apart_up_to : (ss : List Stretch) (m k : ℕ) (t d : Stretch) → AreStacked ss → m < length ss → EndsBelow (get_or ss m t)
      → k < m + 1 → IsApart x slot (get_or ss k d)
  apart_up_to ss m k t d h l ends n =
      let at : EndsBelow (get_or ss m d) = subst EndsBelow (get_or_default ss m t d l) ends in
      elim (cases k m n) [
        | inl e ↦ subst (λ i. IsApart x slot (get_or ss i d)) (sym e) (below_apart (get_or ss m d) at)
        | inr b ↦ below_apart (get_or ss k d) (λ p on over under. at p on over ((pair_at LiesBelow ss k m d h b l).upper p under))
      ]
    where
      cases : (k m : ℕ) → k < m + 1 → (k ≡ m) ⊎ (k < m)
      cases zero zero l = inl refl
      cases zero (suc m) l = inr (omega arith)
      cases (suc k) zero l = absurd (omega arith)
      cases (suc k) (suc m) l = elim (cases k m (omega arith)) [ inl e ↦ inl (ap suc e) | inr b ↦ inr (omega arith) ]

  -- ---- what leaves no cell
  none_kept : (ss : List Stretch) → Every (IsApart x slot) ss → kept (at_wall x (slot_cell slot) (map stretch_cell ss)) ≡ []
  none_kept [] h = refl
  none_kept (s ∷ ss) h = rw (no_point _ h.0) (none_kept ss h.1)

  pub kept_from : (n : ℕ) (ss : List Stretch) → ((k : ℕ) (d : Stretch) → k < n → IsApart x slot (get_or ss k d))
      → kept (at_wall x (slot_cell slot) (map stretch_cell (drop n ss))) ≡ kept (at_wall x (slot_cell slot) (map stretch_cell ss))
  kept_from zero ss f = refl
  kept_from (suc n) [] f = refl
  kept_from (suc n) (s ∷ ss) f =
      rw (no_point (x_is x ∷ slot_cell slot ++ stretch_cell s) (f zero s (omega arith)))
      (kept_from n ss (λ k d l. f (suc k) d (omega arith)))

  -- ---- from one on that begins above the slot
  pub none_kept_above : (ss : List Stretch) (i : ℕ) (s : Stretch) → AreStacked ss → i < length ss → s ≡ get_or ss i s → BeginsAbove s
      → kept (at_wall x (slot_cell slot) (map stretch_cell (drop i ss))) ≡ []
  none_kept_above ss i s h l is begins =
      let next : drop i ss ≡ s ∷ drop (i + 1) ss = drop_more ss i s l ∙ ap (λ t. t ∷ drop (i + 1) ss) (sym is) in
      let stacked : AreStacked (s ∷ drop (i + 1) ss) = subst AreStacked next (stacked_drop i ss h) in
      let later : Every (IsApart x slot) (drop (i + 1) ss) = every_map (LiesBelow s) (IsApart x slot)
      (λ t b. above_apart t (λ p on under over. begins p on under (b.lower p over))) (drop (i + 1) ss) stacked.0 in
      none_kept (drop i ss) (subst (Every (IsApart x slot)) (sym next) (above_apart s begins, later))

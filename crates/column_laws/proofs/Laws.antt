-- The parts of the proof that the columns are exact, as laws.
use Rattle.std.proofs.Common.{◌≡◌, ℤ, pos, ◌<ℤ◌, not, sym, subst, refl, inl, inr, List, [], ◌∷◌, true, false, Bool, None, ◌∙◌, arith}
use Rattle.std.proofs.lemmas.Int.{ints}
use Rattle.plane_terms.specs.Lists.{EveryPair, how_many, is_odd}
use Rattle.plane_terms.specs.Segment.{Segment}
use Rattle.plane_terms.specs.Polygon.{counts}
use Rattle.plane_terms.specs.Columns.{abscissas, column}
use Rattle.column_laws.specs.Slots.{IsAcross, IsBelow, ColumnsHaveOneOrder, SlotsAreClear, SlotsCount, SlotsAreEnough, NoneCountsBeside}
use Rattle.plane_terms.proofs.ListLemmas.{every_map}
use Rattle.cell_laws.proofs.HalfPlanes.{left_value}
use Rattle.column_laws.proofs.Segments.{Lower}
use Rattle.column_laws.proofs.Order.{Chain, chain-column}
use Rattle.column_laws.proofs.Slots.{slot_counts}
use Rattle.column_laws.proofs.Strip.{same_count}
use Rattle.column_laws.proofs.Exact.{abscissas-rising, abscissas-each, none_counts, all_clear, beside_away, slots_clear, slots_enough}

below_from_lower : (x y : ℤ) (s t : Segment) → Lower x y s t → IsBelow x y s t
below_from_lower x y s t l = record {
  over = λ p a h. subst (λ v. pos 0 <ℤ v) (left_value s p) (l.over p a (subst (λ v. pos 0 <ℤ v) (sym (left_value t p)) h));
  under = λ p a h. subst (λ v. v <ℤ pos 0) (left_value t p) (l.under p a (subst (λ v. v <ℤ pos 0) (sym (left_value s p)) h));
}

below_by_chain : (x y : ℤ) (ss : List Segment) → Chain x y ss → EveryPair (IsBelow x y) ss
below_by_chain x y [] c = tt
below_by_chain x y (s ∷ ss) c = (every_map (Lower x y s) (IsBelow x y s) (below_from_lower x y s) ss c.0, below_by_chain x y ss c.1)

pub columns_have_one_order : ColumnsHaveOneOrder
columns_have_one_order ss valid x y d = below_by_chain x y (column x y ss) (chain-column x y d ss valid.simple)

pub slots_are_clear : SlotsAreClear
slots_are_clear ss valid even p h = slots_clear ss p valid even (abscissas ss) (abscissas-rising ss) (abscissas-each ss) h

pub slots_count : SlotsCount
slots_count ss valid x y d f j c e p a h =
    let across : IsAcross x y p = record { right = a.right; left = omega (arith, ints, a.left) } in
    same_count x y p a ss f ∙ (slot_counts x y j None (column x y ss) c e (chain-column x y d ss valid.simple) tt p across h).1

-- as many as there are decide the parity
parity_of : (b : Bool) → (even : Bool) × (b ≡ not even)
parity_of true = (false, refl)
parity_of false = (true, refl)

pub slots_are_enough : SlotsAreEnough
slots_are_enough ss valid p clear =
    let e = parity_of (is_odd (how_many (λ s. counts s p) ss)) in
    elim (slots_enough ss p valid e.0 (abscissas ss) (abscissas-rising ss) (abscissas-each ss) (record { clear = clear; parity = e.1 })) [
      | inl h ↦ inl h
      | inr h ↦ inr (e.0, h)
    ]

pub none_counts_beside : NoneCountsBeside
none_counts_beside ss p h =
    let a = beside_away ss p (abscissas ss) (abscissas-rising ss) (abscissas-each ss) h in
    (all_clear p ss a, none_counts p ss a)

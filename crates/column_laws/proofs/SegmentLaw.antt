-- The segment law: two points with no point of a polygon's boundary between them are both inside or both not.
use Rattle.std.proofs.Common.{◌≡◌, ℤ, pos, ◌-ℤ◌, ◌*ℤ◌, ◌≤ℤ◌, ◌<ℤ◌, ◌↔◌, arith, sym, inl, inr, ◌∙◌, List, [], ◌∷◌}
use Rattle.std.proofs.lemmas.Int.{ints}
use Rattle.plane_terms.specs.Lists.{Every, how_many, is_odd}
use Rattle.plane_terms.specs.Point.{Point, right_by}
use Rattle.plane_terms.specs.Segment.{Segment}
use Rattle.plane_terms.specs.Polygon.{counts, IsInside}
use Rattle.plane_terms.specs.Shape.{Shape, segments_of}
use Rattle.plane_terms.specs.Between.{IsClearBetween}
use Rattle.plane_terms.specs.declared.kind.Kind.TheVariants as shapes
use Rattle.number_laws.proofs.Order.{cases_order_ℤ}
use Rattle.column_laws.proofs.Parity.{differ, differ_none, odd_differ, round_even}
use Rattle.column_laws.proofs.Between.{second_between, between_back}
use Rattle.column_laws.proofs.Depths.{Misses}
use Rattle.column_laws.proofs.FourFacts.{is_low, between_even}

each_misses : (p q : Point) (ss : List Segment) → IsClearBetween ss p q → Every (λ s. Misses s p q) ss
each_misses p q [] h = tt
each_misses p q (s ∷ ss) h = (
  record { never = λ r b o. h.each r b (inl o) },
  each_misses p q ss (record { each = λ r b o. h.each r b (inr o) }),
)

clear_back : (ss : List Segment) (p q : Point) → IsClearBetween ss p q → IsClearBetween ss q p
clear_back ss p q h = record { each = λ r b. h.each r (between_back p q r b) }

module _ (s : Shape) (polygon : s.kind ≡ shapes.Polygon) where
  parity_right : (p q : Point) → pos 0 ≤ℤ right_by p q → IsClearBetween (segments_of s) p q
      → is_odd (how_many (λ t. counts t p) (segments_of s)) ≡ is_odd (how_many (λ t. counts t q) (segments_of s))
  parity_right p q d h =
      let ss = segments_of s in
      differ_none (is_odd (how_many (λ t. counts t p) ss)) (is_odd (how_many (λ t. counts t q) ss))
      (sym (odd_differ (λ t. counts t p) (λ t. counts t q) ss)
      ∙ round_even (λ t. differ (counts t p) (counts t q)) (is_low p q) (λ t. Misses t p q) (between_even p q d) s polygon
      (each_misses p q ss h))

  same_parity : (p q : Point) → IsClearBetween (segments_of s) p q
      → is_odd (how_many (λ t. counts t p) (segments_of s)) ≡ is_odd (how_many (λ t. counts t q) (segments_of s))
  same_parity p q h =
      elim (cases_order_ℤ (right_by p q) (pos 0)) [
        | inl l ↦ sym (parity_right q p (other_way (q.x *ℤ pos p.w) (p.x *ℤ pos q.w) l) (clear_back (segments_of s) p q h))
        | inr l ↦ parity_right p q l h
      ]
    where
      other_way : (u v : ℤ) → (u -ℤ v) <ℤ pos 0 → pos 0 ≤ℤ (v -ℤ u)
      other_way u v h = omega (arith, ints)

  moved : (p q : Point) → IsClearBetween (segments_of s) p q → IsInside (segments_of s) p → IsInside (segments_of s) q
  moved p q h i = record { clear = h.each q (second_between p q); odd = sym (same_parity p q h) ∙ i.odd }

  pub segment_law : (p q : Point) → IsClearBetween (segments_of s) p q → IsInside (segments_of s) p ↔ IsInside (segments_of s) q
  segment_law p q h = (moved p q h, moved q p (clear_back (segments_of s) p q h))

-- A point inside a polygon lies in its envelope. Over or below a point there is an even number of a polygon's segments, so above all
-- vertices an even number of them counts; left, right of and below all vertices none does.
use Rattle.std.proofs.Common.{◌≡◌, ℤ, pos, ◌-ℤ◌, ◌*ℤ◌, ◌≤ℤ◌, ◌<ℤ◌, neg_ℤ, arith, sym, ap, refl, inl, inr, ◌∙◌, Bool, true, false, not, ◌&&◌, List, [], ◌∷◌}
use Rattle.std.specs.Prelude.{if◌then◌else◌}
use Rattle.std.specs.Int.RustNames.{int_le, int_lt}
use Rattle.std.proofs.lemmas.Int.{ints}
use Rattle.std.proofs.lemmas.Bool.{false≢true}
use Rattle.plane_terms.specs.Lists.{Every, how_many, is_odd}
use Rattle.plane_terms.specs.Point.{Place, Point}
use Rattle.plane_terms.specs.Rectangle.{Rectangle, RectHolds}
use Rattle.plane_terms.specs.Segment.{Segment, cross, comes_before, segment_between}
use Rattle.plane_terms.specs.Polygon.{counts, IsInside}
use Rattle.plane_terms.specs.Shape.{Shape, envelope_of, segments_of}
use Rattle.plane_terms.specs.declared.kind.Kind.TheVariants as shapes
use Rattle.number_laws.proofs.Ring.{num, neg, ◌⊖◌, ◌⊗◌, lt_by, lt_read, le_by, le_read}
use Rattle.number_laws.proofs.Order.{scaled_le, product_at_least, product_over, over_unscaled, least_unscaled, cases_order_ℤ}
use Rattle.number_laws.proofs.Tests.{Decides-int_lt, int_le_false, int_lt_false}
use Rattle.plane_terms.proofs.ListLemmas.{every_map, every_of_all}
use Rattle.column_laws.proofs.Parity.{differ, differ_back, in_order, out_of_order, round_even}
use Rattle.rule_laws.proofs.Envelopes.{LiesIn, BothEnds, segments_ends}

-- ---- the segments over or below a point
abbrev pub is_before : Point → Place → Bool
is_before p q = int_le (q.x *ℤ pos p.w) p.x

abbrev pub spans : Point → Segment → Bool
spans p s = is_before p s.lo && int_lt p.x (s.hi.x *ℤ pos p.w)

spans_ordered : (p : Point) (a b : Place) → a.x ≤ℤ b.x
    → (is_before p a && int_lt p.x (b.x *ℤ pos p.w)) ≡ differ (is_before p a) (is_before p b)
unfolding differ
spans_ordered p a b h =
    let l = scaled_le a.x b.x p.w h in
    rw (other (b.x *ℤ pos p.w) p.x) (by_cases (is_before p a) (is_before p b) (earlier (a.x *ℤ pos p.w) (b.x *ℤ pos p.w) p.x l))
  where
    other : (v z : ℤ) → int_lt z v ≡ not (int_le v z)
    other v z = grind (arith, ints)

    earlier : (u v z : ℤ) → u ≤ℤ v → int_le v z ≡ true → int_le u z ≡ true
    earlier u v z h k = grind (arith, ints)

    by_cases : (b c : Bool) → (c ≡ true → b ≡ true) → (b && not c) ≡ differ b c
    by_cases true c h = refl
    by_cases false true h = h refl
    by_cases false false h = refl

pub spans_between : (p : Point) (a b : Place) → spans p (segment_between a b) ≡ differ (is_before p a) (is_before p b)
spans_between p a b = by_order (comes_before a b) refl
  where
    by_order : (t : Bool) → comes_before a b ≡ t
        → spans p (if t then record { lo = a; hi = b; turned = false } else record { lo = b; hi = a; turned = true }) ≡ differ
        (is_before p a) (is_before p b)
    by_order true e = spans_ordered p a b (in_order a b e)
    by_order false e = spans_ordered p b a (out_of_order a b e) ∙ differ_back (is_before p b) (is_before p a)

pub polygon_even : (p : Point) (s : Shape) → s.kind ≡ shapes.Polygon → is_odd (how_many (spans p) (segments_of s)) ≡ false
polygon_even p s e =
    round_even (spans p) (is_before p) (λ t. Unit {0}) (λ a b k. spans_between p a b) s e
    (every_of_all (λ t. Unit {0}) (λ t. tt) (segments_of s))

-- ---- above and below both ends
pub cross_above : (s : Segment) (p : Point) → (s.lo.x *ℤ pos p.w) ≤ℤ p.x → p.x <ℤ (s.hi.x *ℤ pos p.w) → (s.lo.y *ℤ pos p.w) <ℤ p.y
    → (s.hi.y *ℤ pos p.w) <ℤ p.y → pos 0 <ℤ cross s p
cross_above s p l r a b =
    let w = num (pos p.w) in
    let u = num p.x ⊖ num s.lo.x ⊗ w in
    let v = num s.hi.x ⊗ w ⊖ num p.x in
    let m = num p.y ⊖ num s.lo.y ⊗ w in
    let n = num p.y ⊖ num s.hi.y ⊗ w in
    let c = (num s.hi.x ⊖ num s.lo.x) ⊗ m ⊖ (num s.hi.y ⊖ num s.lo.y) ⊗ u in
    let h = lt_read (num (pos 0)) (v ⊗ m)
    (product_over (s.hi.x *ℤ pos p.w -ℤ p.x) (p.y -ℤ s.lo.y *ℤ pos p.w) (omega (arith, ints)) (omega (arith, ints))) in
    let k = le_read (num (pos 0)) (u ⊗ n)
    (product_at_least (p.x -ℤ s.lo.x *ℤ pos p.w) (p.y -ℤ s.hi.y *ℤ pos p.w) (omega (arith, ints)) (omega (arith, ints))) in
    let q = p.positive in
    over_unscaled (pos p.w) (cross s p) (omega (arith, ints, q)) (lt_by (num (pos 0)) (w ⊗ c) (omega (arith, h, k)))

-- a point that is above no end of a segment is not above the segment
pub cross_below : (s : Segment) (p : Point) → (s.lo.x *ℤ pos p.w) ≤ℤ p.x → p.x <ℤ (s.hi.x *ℤ pos p.w) → p.y ≤ℤ (s.lo.y *ℤ pos p.w)
    → p.y ≤ℤ (s.hi.y *ℤ pos p.w) → cross s p ≤ℤ pos 0
cross_below s p l r a b =
    let w = num (pos p.w) in
    let u = num p.x ⊖ num s.lo.x ⊗ w in
    let v = num s.hi.x ⊗ w ⊖ num p.x in
    let m = num s.lo.y ⊗ w ⊖ num p.y in
    let n = num s.hi.y ⊗ w ⊖ num p.y in
    let c = (num s.hi.x ⊖ num s.lo.x) ⊗ (num p.y ⊖ num s.lo.y ⊗ w) ⊖ (num s.hi.y ⊖ num s.lo.y) ⊗ u in
    let h = le_read (num (pos 0)) (v ⊗ m)
    (product_at_least (s.hi.x *ℤ pos p.w -ℤ p.x) (s.lo.y *ℤ pos p.w -ℤ p.y) (omega (arith, ints)) (omega (arith, ints))) in
    let k = le_read (num (pos 0)) (u ⊗ n)
    (product_at_least (p.x -ℤ s.lo.x *ℤ pos p.w) (s.hi.y *ℤ pos p.w -ℤ p.y) (omega (arith, ints)) (omega (arith, ints))) in
    let q = p.positive in
    let z = least_unscaled (pos p.w) (neg_ℤ (cross s p)) (omega (arith, ints, q)) (le_by (num (pos 0)) (w ⊗ neg c) (omega (arith, h, k))) in
    omega (arith, ints, z)

-- ---- what counts
-- what the two first tests say
pub both_tests : (u v z : ℤ) → (int_le u z && int_lt z v) ≡ true → (u ≤ℤ z) × (z <ℤ v)
both_tests u v z e = (low u v z e, high u v z e)
  where
    low : (u v z : ℤ) → (int_le u z && int_lt z v) ≡ true → u ≤ℤ z
    low u v z e = grind (arith, ints)

    high : (u v z : ℤ) → (int_le u z && int_lt z v) ≡ true → z <ℤ v
    high u v z e = grind (arith, ints)

counts_above : (p : Point) (s : Segment) → BothEnds (λ q. (q.y *ℤ pos p.w) <ℤ p.y) s → counts s p ≡ spans p s
counts_above p s h = third_is (is_before p s.lo) (int_lt p.x (s.hi.x *ℤ pos p.w)) (int_lt (pos 0) (cross s p)) (λ e.
    let k = both_tests (s.lo.x *ℤ pos p.w) (s.hi.x *ℤ pos p.w) p.x e in
    (Decides-int_lt (pos 0) (cross s p)).1 (cross_above s p k.0 k.1 h.0 h.1))
  where
    third_is : (b c d : Bool) → ((b && c) ≡ true → d ≡ true) → (b && (c && d)) ≡ (b && c)
    third_is true true d h = h refl
    third_is true false d h = refl
    third_is false c d h = refl

counts_below : (p : Point) (s : Segment) → BothEnds (λ q. p.y <ℤ (q.y *ℤ pos p.w)) s → counts s p ≡ false
counts_below p s h = third_not (is_before p s.lo) (int_lt p.x (s.hi.x *ℤ pos p.w)) (int_lt (pos 0) (cross s p)) (λ e.
    let k = both_tests (s.lo.x *ℤ pos p.w) (s.hi.x *ℤ pos p.w) p.x e in
    int_lt_false (pos 0) (cross s p) (cross_below s p k.0 k.1 (omega (arith, ints, h.0)) (omega (arith, ints, h.1))))
  where
    third_not : (b c d : Bool) → ((b && c) ≡ true → d ≡ false) → (b && (c && d)) ≡ false
    third_not true true d h = h refl
    third_not true false d h = refl
    third_not false c d h = refl

counts_left : (p : Point) (s : Segment) → BothEnds (λ q. p.x <ℤ (q.x *ℤ pos p.w)) s → counts s p ≡ false
counts_left p s h = first_not (is_before p s.lo) (int_lt p.x (s.hi.x *ℤ pos p.w) && int_lt (pos 0) (cross s p))
    (int_le_false (s.lo.x *ℤ pos p.w) p.x h.0)
  where
    first_not : (b c : Bool) → b ≡ false → (b && c) ≡ false
    first_not b c e = rw e refl

counts_right : (p : Point) (s : Segment) → BothEnds (λ q. (q.x *ℤ pos p.w) <ℤ p.x) s → counts s p ≡ false
counts_right p s h =
    second_not (is_before p s.lo) (int_lt p.x (s.hi.x *ℤ pos p.w)) (int_lt (pos 0) (cross s p)) (int_lt_false p.x (s.hi.x *ℤ pos p.w) (omega (arith, ints, h.1)))
  where
    second_not : (b c d : Bool) → c ≡ false → (b && (c && d)) ≡ false
    second_not true c d e = rw e refl
    second_not false c d e = refl

same_number : {A : Type 0} (t u : A → Bool) (xs : List A) → Every (λ x. t x ≡ u x) xs → how_many t xs ≡ how_many u xs
same_number t u [] h = refl
same_number t u (x ∷ xs) h = rw (h.0, same_number t u xs h.1) refl

none_odd : (p : Point) (ss : List Segment) → Every (λ s. counts s p ≡ false) ss → is_odd (how_many (λ s. counts s p) ss) ≡ false
none_odd p [] h = refl
none_odd p (s ∷ ss) h = rw h.0 (none_odd p ss h.1)

-- ---- in the envelope
module _ (s : Shape) (e : s.kind ≡ shapes.Polygon) (p : Point) (i : IsInside (segments_of s) p) where
  abbrev box : Rectangle
  box = envelope_of s

  never : is_odd (how_many (λ t. counts t p) (segments_of s)) ≡ false → ⊥
  never k = false≢true (sym k ∙ i.odd)

  -- where each segment with both ends in the envelope does not count
  outside : ((t : Segment) → BothEnds (LiesIn box) t → counts t p ≡ false) → ⊥
  outside f = never (none_odd p (segments_of s)
      (every_map (BothEnds (LiesIn box)) (λ t. counts t p ≡ false) f (segments_of s) (segments_ends s)))

  left_held : (box.x0 *ℤ pos p.w) ≤ℤ p.x
  left_held = elim (cases_order_ℤ p.x (box.x0 *ℤ pos p.w)) [
    | inl l ↦ absurd (outside
        (λ t h. counts_left p t
        (omega (arith, ints, l, scaled_le box.x0 t.lo.x p.w h.0.left), omega (arith, ints, l, scaled_le box.x0 t.hi.x p.w h.1.left))))
    | inr k ↦ k
  ]

  right_held : p.x ≤ℤ (box.x1 *ℤ pos p.w)
  right_held = elim (cases_order_ℤ (box.x1 *ℤ pos p.w) p.x) [
    | inl l ↦ absurd (outside
        (λ t h. counts_right p t
        (omega (arith, ints, l, scaled_le t.lo.x box.x1 p.w h.0.right), omega (arith, ints, l, scaled_le t.hi.x box.x1 p.w h.1.right))))
    | inr k ↦ k
  ]

  below_held : (box.y0 *ℤ pos p.w) ≤ℤ p.y
  below_held = elim (cases_order_ℤ p.y (box.y0 *ℤ pos p.w)) [
    | inl l ↦ absurd (outside
        (λ t h. counts_below p t
        (omega (arith, ints, l, scaled_le box.y0 t.lo.y p.w h.0.below), omega (arith, ints, l, scaled_le box.y0 t.hi.y p.w h.1.below))))
    | inr k ↦ k
  ]

  above_held : p.y ≤ℤ (box.y1 *ℤ pos p.w)
  above_held = elim (cases_order_ℤ (box.y1 *ℤ pos p.w) p.y) [
    | inl l ↦
        let same = same_number (λ t. counts t p) (spans p) (segments_of s) (every_map (BothEnds (LiesIn box)) (λ t. counts t p ≡ spans p t)
        (λ t h. counts_above p t (
          omega (arith, ints, l, scaled_le t.lo.y box.y1 p.w h.0.above),
          omega (arith, ints, l, scaled_le t.hi.y box.y1 p.w h.1.above),
        )) (segments_of s) (segments_ends s)) in
        absurd (never (ap is_odd same ∙ polygon_even p s e))
    | inr k ↦ k
  ]

  pub inside_held : RectHolds (envelope_of s) p
  inside_held = record { left = left_held; right = right_held; below = below_held; above = above_held }

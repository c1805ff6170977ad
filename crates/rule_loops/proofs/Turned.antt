-- An inside point of a polygon has an odd number of sides left of it in its row, as it has below it in its column. A side counts in one of
-- the two and not in the other just where one of its ends, and not the other, is in the quadrant left of the point and below it: each vertex
-- is an end of two sides, so the two numbers differ by an even one. And an even number of sides goes through the row.
use Rattle.std.proofs.Common.{◌≡◌, inl, inr, ℕ, ℤ, pos, ◌+ℤ◌, ◌-ℤ◌, ◌*ℤ◌, ◌≤ℤ◌, ◌<ℤ◌, neg_ℤ, arith, sym, refl, ◌∙◌, Bool, true, false, not}
use Rattle.std.specs.Prelude.{◌&&◌, if◌then◌else◌}
use Rattle.std.specs.Int.RustNames.{int_le, int_lt}
use Rattle.std.proofs.lemmas.Int.{ints}
use Rattle.plane_terms.specs.Lists.{how_many, is_odd}
use Rattle.plane_terms.specs.Point.{Place, Point}
use Rattle.plane_terms.specs.Segment.{Segment, cross, OnSegment, comes_before, segment_between}
use Rattle.plane_terms.specs.Polygon.{counts, IsInside}
use Rattle.plane_terms.specs.declared.kind.Kind.TheVariants as shapes
use Rattle.plane_terms.proofs.ListLemmas.{every_of_all}
use Rattle.topology_terms.specs.Feature.{Feature, sides}
use Rattle.number_laws.proofs.Ring.{num, neg, ◌⊕◌, ◌⊖◌, ◌⊗◌, same_by}
use Rattle.number_laws.proofs.Order.{scaled_le, product_at_least, product_over, least_unscaled, cases_order_ℤ}
use Rattle.number_laws.proofs.Tests.{Decides-int_le, Decides-int_lt, int_lt_false}
use Rattle.column_laws.proofs.Parity.{differ, differ_self, differ_back, differ_none, odd_differ, in_order, out_of_order, round_even}
use Rattle.column_laws.proofs.Strip.{each_by_clear}
use Rattle.rule_laws.proofs.Crossings.{is_before, spans, spans_between, cross_below}
use Rattle.rule_loops.specs.Stacked.{turned_place, turned_point, turned_segment}

-- ---- of plain numbers
-- what the cross is of the distances from both ends, times the weight
weighed : (lx ly hx hy px py : ℤ) (w : ℕ) → pos w *ℤ ((hx -ℤ lx) *ℤ (py -ℤ ly *ℤ pos w) -ℤ (hy -ℤ ly) *ℤ (px -ℤ lx *ℤ pos w))
    ≡ (px -ℤ lx *ℤ pos w) *ℤ (py -ℤ hy *ℤ pos w) +ℤ (hx *ℤ pos w -ℤ px) *ℤ (py -ℤ ly *ℤ pos w)
weighed lx ly hx hy px py w =
    let right = num px ⊖ num lx ⊗ num (pos w) in
    let up = num py ⊖ num ly ⊗ num (pos w) in
    same_by (num (pos w) ⊗ ((num hx ⊖ num lx) ⊗ up ⊖ (num hy ⊖ num ly) ⊗ right))
    (right ⊗ (num py ⊖ num hy ⊗ num (pos w)) ⊕ (num hx ⊗ num (pos w) ⊖ num px) ⊗ up) (omega arith)

-- the cross of the turned segment whose ends keep their order, and of the one whose ends change places
pub kept_cross : (wide up over rise : ℤ) → rise *ℤ over -ℤ wide *ℤ up ≡ neg_ℤ (wide *ℤ up -ℤ rise *ℤ over)
kept_cross wide up over rise = same_by (num rise ⊗ num over ⊖ num wide ⊗ num up) (neg (num wide ⊗ num up ⊖ num rise ⊗ num over)) (omega arith)

changed_cross : (lx ly hx hy px py : ℤ) (w : ℕ) → (ly -ℤ hy) *ℤ (px -ℤ hx *ℤ pos w) -ℤ (lx -ℤ hx) *ℤ (py -ℤ hy *ℤ pos w)
    ≡ (hx -ℤ lx) *ℤ (py -ℤ ly *ℤ pos w) -ℤ (hy -ℤ ly) *ℤ (px -ℤ lx *ℤ pos w)
changed_cross lx ly hx hy px py w =
    same_by ((num ly ⊖ num hy) ⊗ (num px ⊖ num hx ⊗ num (pos w)) ⊖ (num lx ⊖ num hx) ⊗ (num py ⊖ num hy ⊗ num (pos w)))
    ((num hx ⊖ num lx) ⊗ (num py ⊖ num ly ⊗ num (pos w)) ⊖ (num hy ⊖ num ly) ⊗ (num px ⊖ num lx ⊗ num (pos w))) (omega arith)

-- a sum of two products of which no factor is below 0, and one factor is above
least_sum : (w v x y z u : ℤ) → pos 0 <ℤ w → w *ℤ v ≡ x *ℤ y +ℤ z *ℤ u → pos 0 ≤ℤ x → pos 0 ≤ℤ y → pos 0 <ℤ z → pos 0 ≤ℤ u → pos 0 ≤ℤ v
least_sum w v x y z u o e i j k l =
    let m = product_at_least x y i j in
    let n = product_at_least z u (omega (arith, ints, k)) l in
    least_unscaled w v o (omega (arith, ints, e, m, n))

none_beside : (w v x y z u : ℤ) → w *ℤ v ≡ x *ℤ y +ℤ z *ℤ u → pos 0 ≤ℤ x → pos 0 ≤ℤ y → pos 0 <ℤ z → v ≡ pos 0 → u ≤ℤ pos 0
none_beside w v x y z u e i j k n = elim (cases_order_ℤ (pos 0) u) [
  | inl h ↦
      let none : w *ℤ v ≡ pos 0 = rw n (omega (arith, ints)) in
      absurd (omega (arith, ints, e, none, product_at_least x y i j, product_over z u k h))
  | inr h ↦ h
]

-- what the tests say
beyond : (u z : ℤ) → int_le u z ≡ false → z <ℤ u
beyond u z e = grind (arith, ints)

before_not : (v z : ℤ) → int_lt z v ≡ not (int_le v z)
before_not v z = grind (arith, ints)

in_turn : (u v z : ℤ) (w : ℕ) → u ≤ℤ v → int_le (u *ℤ pos w) z ≡ false → int_le (v *ℤ pos w) z ≡ true → ⊥
in_turn u v z w h e f =
    let k = scaled_le u v w h in
    let l = beyond (u *ℤ pos w) z e in
    let m = (Decides-int_le (v *ℤ pos w) z).0 f in
    absurd (omega (arith, ints, k, l, m))

one_over : (k n : ℤ) → n ≡ neg_ℤ k → (k ≡ pos 0 → ⊥) → differ (int_lt (pos 0) k) (int_lt (pos 0) n) ≡ true
unfolding differ
one_over k n e off = elim (cases_order_ℤ (pos 0) k) [
  | inl h ↦
      let m : n ≤ℤ pos 0 = omega (arith, ints, e, h) in
      rw ((Decides-int_lt (pos 0) k).1 h, int_lt_false (pos 0) n m) refl
  | inr h ↦ elim (cases_order_ℤ k (pos 0)) [
    | inl l ↦
        let m : pos 0 <ℤ n = omega (arith, ints, e, l) in
        rw (int_lt_false (pos 0) k h, (Decides-int_lt (pos 0) n).1 m) refl
    | inr l ↦ absurd (off (omega (arith, ints, h, l)))
  ]
]

-- ---- a segment that spans the column
abbrev is_low : Point → Place → Bool
is_low p q = is_before (turned_point p) (turned_place q)

above_both : (s : Segment) (p : Point) → ¬ (OnSegment s p) → (s.lo.x *ℤ pos p.w) ≤ℤ p.x → p.x <ℤ (s.hi.x *ℤ pos p.w)
    → (s.lo.y *ℤ pos p.w) ≤ℤ p.y → (s.hi.y *ℤ pos p.w) ≤ℤ p.y → pos 0 <ℤ cross s p
above_both s p off a c b d =
    let q = p.positive in
    let e = weighed s.lo.x s.lo.y s.hi.x s.hi.y p.x p.y p.w in
    let right : pos 0 ≤ℤ (p.x -ℤ s.lo.x *ℤ pos p.w) = omega (arith, ints, a) in
    let left : pos 0 <ℤ (s.hi.x *ℤ pos p.w -ℤ p.x) = omega (arith, ints, c) in
    let over : pos 0 ≤ℤ (p.y -ℤ s.hi.y *ℤ pos p.w) = omega (arith, ints, d) in
    let up : pos 0 ≤ℤ (p.y -ℤ s.lo.y *ℤ pos p.w) = omega (arith, ints, b) in
    let least = least_sum (pos p.w) (cross s p) (p.x -ℤ s.lo.x *ℤ pos p.w) (p.y -ℤ s.hi.y *ℤ pos p.w) (s.hi.x *ℤ pos p.w -ℤ p.x)
    (p.y -ℤ s.lo.y *ℤ pos p.w) (omega (arith, ints, q)) e right over left up in
    elim (cases_order_ℤ (pos 0) (cross s p)) [
      | inl h ↦ h
      | inr h ↦
          let flat = same_least (cross s p) least h in
          let m = none_beside (pos p.w) (cross s p) (p.x -ℤ s.lo.x *ℤ pos p.w) (p.y -ℤ s.hi.y *ℤ pos p.w) (s.hi.x *ℤ pos p.w -ℤ p.x)
          (p.y -ℤ s.lo.y *ℤ pos p.w) e right over left flat in
          absurd (off (record { straight = flat; across = inl (a, omega (arith, ints, c)); along = inr (d, omega (arith, ints, m)) }))
    ]
  where
    same_least : (k : ℤ) → pos 0 ≤ℤ k → k ≤ℤ pos 0 → k ≡ pos 0
    same_least k h l = omega (arith, ints, h, l)

module _ (s : Segment) (p : Point) (a : is_before p s.lo ≡ true) (c : is_before p s.hi ≡ false) where
  both_low : ¬ (OnSegment s p) → is_low p s.lo ≡ true → is_low p s.hi ≡ true → int_lt (pos 0) (cross s p) ≡ true
  both_low off b d = (Decides-int_lt (pos 0) (cross s p)).1
      (above_both s p off ((Decides-int_le (s.lo.x *ℤ pos p.w) p.x).0 a) (beyond (s.hi.x *ℤ pos p.w) p.x c) ((Decides-int_le (s.lo.y *ℤ pos p.w) p.y).0 b)
      ((Decides-int_le (s.hi.y *ℤ pos p.w) p.y).0 d))

  neither_low : is_low p s.lo ≡ false → is_low p s.hi ≡ false → int_lt (pos 0) (cross s p) ≡ false
  neither_low b d =
      let m = beyond (s.lo.y *ℤ pos p.w) p.y b in
      let n = beyond (s.hi.y *ℤ pos p.w) p.y d in
      int_lt_false (pos 0) (cross s p) (cross_below s p ((Decides-int_le (s.lo.x *ℤ pos p.w) p.x).0 a) (beyond (s.hi.x *ℤ pos p.w) p.x c)
      (omega (arith, ints, m)) (omega (arith, ints, n)))

  -- and the row, upwards
  off_line : ¬ (OnSegment s p) → is_low p s.lo ≡ true → is_low p s.hi ≡ false → cross s p ≡ pos 0 → ⊥
  off_line off b d z =
      let l = beyond (s.hi.x *ℤ pos p.w) p.x c in
      let m = beyond (s.hi.y *ℤ pos p.w) p.y d in
      off (record {
        straight = z;
        across = inl ((Decides-int_le (s.lo.x *ℤ pos p.w) p.x).0 a, omega (arith, ints, l));
        along = inl ((Decides-int_le (s.lo.y *ℤ pos p.w) p.y).0 b, omega (arith, ints, m));
      })

-- ---- a segment and the turned one
abbrev pub risen : Segment → Segment
risen s = record { lo = turned_place s.lo; hi = turned_place s.hi; turned = false }

abbrev pub fallen : Segment → Segment
fallen s = record { lo = turned_place s.hi; hi = turned_place s.lo; turned = true }

abbrev in_quadrant : Point → Place → Bool
in_quadrant p q = is_before p q && is_low p q

module _ (s : Segment) (p : Point) where
  rise_cross : cross (risen s) (turned_point p) ≡ neg_ℤ (cross s p)
  rise_cross = kept_cross (s.hi.x -ℤ s.lo.x) (p.y -ℤ s.lo.y *ℤ pos p.w) (p.x -ℤ s.lo.x *ℤ pos p.w) (s.hi.y -ℤ s.lo.y)

  fall_cross : cross (fallen s) (turned_point p) ≡ cross s p
  fall_cross = changed_cross s.lo.x s.lo.y s.hi.x s.hi.y p.x p.y p.w

  -- of a segment that the point is not on
  module _ (h : s.lo.x ≤ℤ s.hi.x) (off : ¬ (OnSegment s p)) where
    off_risen : ¬ (OnSegment (risen s) (turned_point p))
    off_risen o =
        let e = rise_cross in
        let z = o.straight in
        off (record { straight = none (cross s p) (cross (risen s) (turned_point p)) e z; across = o.along; along = o.across })
      where
        none : (k n : ℤ) → n ≡ neg_ℤ k → n ≡ pos 0 → k ≡ pos 0
        none k n e z = omega (arith, ints, e, z)

    off_fallen : ¬ (OnSegment (fallen s) (turned_point p))
    off_fallen o = off (record {
      straight = sym fall_cross ∙ o.straight;
      across = elim o.along [ inl k ↦ inr k | inr k ↦ inl k ];
      along = elim o.across [ inl k ↦ inr k | inr k ↦ inl k ];
    })

    rises : s.lo.y ≤ℤ s.hi.y → differ (counts s p) (counts (risen s) (turned_point p)) ≡ differ (in_quadrant p s.lo) (in_quadrant p s.hi)
    unfolding differ
    rises v = rw (before_not (s.hi.x *ℤ pos p.w) p.x, before_not (s.hi.y *ℤ pos p.w) p.y)
        (by_tests (is_before p s.lo) (is_low p s.lo) (is_before p s.hi) (is_low p s.hi) refl refl refl refl)
      where
        by_tests : (a b c d : Bool) → is_before p s.lo ≡ a → is_low p s.lo ≡ b → is_before p s.hi ≡ c → is_low p s.hi ≡ d
            → differ (a && (not c && int_lt (pos 0) (cross s p))) (b && (not d && int_lt (pos 0) (cross (risen s) (turned_point p))))
            ≡ differ (a && b) (c && d)
        by_tests true true true true e f g i = refl
        by_tests true true true false e f g i = both_low (risen s) (turned_point p) f i off_risen e g
        by_tests true true false true e f g i = rw (both_low s p e g off f i) refl
        by_tests true true false false e f g i = one_over (cross s p) (cross (risen s) (turned_point p)) rise_cross (off_line s p e g off f i)
        by_tests true false true false e f g i = refl
        by_tests true false false false e f g i = rw (neither_low s p e g f i) refl
        by_tests false true false true e f g i = refl
        by_tests false true false false e f g i = neither_low (risen s) (turned_point p) f i e g
        by_tests false false false false e f g i = refl
        by_tests a false c true e f g i = absurd (in_turn s.lo.y s.hi.y p.y p.w v f i)
        by_tests false b true d e f g i = absurd (in_turn s.lo.x s.hi.x p.x p.w h e g)

    falls : s.hi.y ≤ℤ s.lo.y → differ (counts s p) (counts (fallen s) (turned_point p)) ≡ differ (in_quadrant p s.lo) (in_quadrant p s.hi)
    unfolding differ
    falls v = rw (before_not (s.hi.x *ℤ pos p.w) p.x, before_not (s.lo.y *ℤ pos p.w) p.y)
        (by_tests (is_before p s.lo) (is_low p s.lo) (is_before p s.hi) (is_low p s.hi) refl refl refl refl)
      where
        by_tests : (a b c d : Bool) → is_before p s.lo ≡ a → is_low p s.lo ≡ b → is_before p s.hi ≡ c → is_low p s.hi ≡ d
            → differ (a && (not c && int_lt (pos 0) (cross s p))) (d && (not b && int_lt (pos 0) (cross (fallen s) (turned_point p))))
            ≡ differ (a && b) (c && d)
        by_tests true true true true e f g i = refl
        by_tests true true false true e f g i = rw (both_low s p e g off f i) refl
        by_tests true false true true e f g i = both_low (fallen s) (turned_point p) i f off_fallen g e
        by_tests true false true false e f g i = refl
        by_tests true false false true e f g i = rw fall_cross (differ_self (int_lt (pos 0) (cross s p)))
        by_tests true false false false e f g i = rw (neither_low s p e g f i) refl
        by_tests false true false true e f g i = refl
        by_tests false false false true e f g i = neither_low (fallen s) (turned_point p) i f g e
        by_tests false false false false e f g i = refl
        by_tests a true c false e f g i = absurd (in_turn s.hi.y s.lo.y p.y p.w v i f)
        by_tests false b true d e f g i = absurd (in_turn s.lo.x s.hi.x p.x p.w h e g)

    turns : differ (counts s p) (counts (turned_segment s) (turned_point p)) ≡ differ (in_quadrant p s.lo) (in_quadrant p s.hi)
    turns = by_order (comes_before (turned_place s.lo) (turned_place s.hi)) refl
      where
        by_order : (t : Bool) → comes_before (turned_place s.lo) (turned_place s.hi) ≡ t
            → differ (counts s p) (counts (if t then risen s else fallen s) (turned_point p)) ≡ differ (in_quadrant p s.lo) (in_quadrant p s.hi)
        by_order true e = rises (in_order (turned_place s.lo) (turned_place s.hi) e)
        by_order false e = falls (out_of_order (turned_place s.lo) (turned_place s.hi) e)

  spans_turned : spans (turned_point p) (turned_segment s) ≡ differ (is_low p s.lo) (is_low p s.hi)
  spans_turned = spans_between (turned_point p) (turned_place s.lo) (turned_place s.hi)

-- ---- between two vertices
-- in their order, or not
abbrev drawn : Place → Place → Bool → Segment
drawn a b t = if t then record { lo = a; hi = b; turned = false } else record { lo = b; hi = a; turned = true }

turns_between : (p : Point) (a b : Place) → ¬ (OnSegment (segment_between a b) p)
    → differ (counts (segment_between a b) p) (counts (turned_segment (segment_between a b)) (turned_point p))
    ≡ differ (in_quadrant p a) (in_quadrant p b)
turns_between p a b = by_order (comes_before a b) refl
  where
    by_order : (t : Bool) → comes_before a b ≡ t → ¬ (OnSegment (drawn a b t) p)
        → differ (counts (drawn a b t) p) (counts (turned_segment (drawn a b t)) (turned_point p)) ≡ differ (in_quadrant p a) (in_quadrant p b)
    by_order true e off = turns (drawn a b true) p (in_order a b e) off
    by_order false e off = turns (drawn a b false) p (out_of_order a b e) off ∙ differ_back (in_quadrant p b) (in_quadrant p a)

row_between : (p : Point) (a b : Place) → spans (turned_point p) (turned_segment (segment_between a b)) ≡ differ (is_low p a) (is_low p b)
row_between p a b = by_order (comes_before a b) (spans_turned (segment_between a b) p)
  where
    by_order : (t : Bool) → spans (turned_point p) (turned_segment (drawn a b t)) ≡ differ (is_low p (drawn a b t).lo) (is_low p (drawn a b t).hi)
        → spans (turned_point p) (turned_segment (drawn a b t)) ≡ differ (is_low p a) (is_low p b)
    by_order true e = e
    by_order false e = e ∙ differ_back (is_low p b) (is_low p a)

-- ---- of a polygon
pub turned_odd : (f : Feature) (p : Point) → f.shape.kind ≡ shapes.Polygon → IsInside (sides f) p
    → is_odd (how_many (λ s. counts (turned_segment s) (turned_point p)) (sides f)) ≡ true
turned_odd f p e i =
    let below = λ (s : Segment). counts s p in
    let left = λ (s : Segment). counts (turned_segment s) (turned_point p) in
    let even = round_even (λ s. differ (below s) (left s)) (in_quadrant p) (λ s. ¬ (OnSegment s p)) (turns_between p) f.shape e
    (each_by_clear p (sides f) i.clear) in
    sym (differ_none (is_odd (how_many below (sides f))) (is_odd (how_many left (sides f))) (sym (odd_differ below left (sides f)) ∙ even))
    ∙ i.odd

pub turned_even : (f : Feature) (p : Point) → f.shape.kind ≡ shapes.Polygon
    → is_odd (how_many (λ s. spans (turned_point p) (turned_segment s)) (sides f)) ≡ false
turned_even f p e =
    round_even (λ s. spans (turned_point p) (turned_segment s)) (is_low p) (λ s. Unit {0}) (λ a b k. row_between p a b) f.shape e
    (every_of_all (λ s. Unit {0}) (λ s. tt) (sides f))

-- Polygons one of which stands above the other, or beside it, have no inside point in common: what is inside the upper one is above a segment
-- of it, so above every segment of the lower one in that column; but of what is inside the lower one some segment runs above it or through
-- it. The same holds in rows, where abscissas and ordinates are exchanged.
use Rattle.std.proofs.Common.{◌≡◌, inl, inr, ℤ, pos, ◌-ℤ◌, ◌*ℤ◌, neg_ℤ, ◌≤ℤ◌, ◌<ℤ◌, arith, refl, ap, ◌∙◌, Bool, true, false, List, [], ◌∷◌}
use Rattle.std.specs.Prelude.{◌&&◌, ◌||◌, ◌⊎◌, if◌then◌else◌}
use Rattle.std.specs.List.{list_all}
use Rattle.std.specs.Int.{int_max, int_min}
use Rattle.std.specs.Ordering.{int_eq}
use Rattle.std.specs.Int.RustNames.{int_le, int_lt}
use Rattle.std.proofs.lemmas.Int.{ints, clamps}
use Rattle.std.proofs.lemmas.Bool.{false≢true}
use Rattle.plane_terms.specs.Lists.{Every, SomeOf}
use Rattle.plane_terms.specs.Point.{Place, Point}
use Rattle.plane_terms.specs.Segment.{Segment, IsSegment, cross}
use Rattle.plane_terms.specs.Share.{turn}
use Rattle.plane_terms.specs.Polygon.{counts, IsInside}
use Rattle.plane_terms.specs.declared.kind.Kind.TheVariants as shapes
use Rattle.plane_terms.proofs.Truths.{both_parts}
use Rattle.topology_terms.specs.Feature.{Feature, sides}
use Rattle.topology_terms.specs.Plans.{overlap_cells}
use Rattle.number_laws.proofs.Ring.{num, ◌⊖◌, ◌⊗◌, same_by}
use Rattle.number_laws.proofs.Order.{scaled_le, turned_at_least, cases_order_ℤ}
use Rattle.number_laws.proofs.Tests.{Decides-int_le, Decides-int_lt}
use Rattle.cell_laws.proofs.Envelope.{ends_rise}
use Rattle.column_laws.proofs.Parity.{differ, odd_differ}
use Rattle.rule_laws.proofs.Crossings.{spans, both_tests, cross_above}
use Rattle.rule_laws.proofs.Families.{IsFit}
use Rattle.rule_loops.specs.Stacked.{highest, lowest, lies_left, lies_right, is_under, rises, is_before, are_ordered, AreStacked}
use Rattle.rule_loops.specs.declared.stacked.Order.{Order}
use Rattle.rule_loops.specs.declared.stacked.Order.TheVariants as order
use Rattle.rule_loops.specs.Stacked.{turned_place, turned_point, turned_segment}
use Rattle.rule_loops.proofs.LineSides.{Spans, left_over, right_not_over, some_idle}
use Rattle.rule_loops.proofs.Neighbours.{some_passes, three_tests, low_end, none_common}
use Rattle.rule_loops.proofs.Turned.{risen, fallen, kept_cross, turned_odd, turned_even}

-- ---- one segment under another
-- the ways in which s runs nowhere above t
data StandsUnder (s t : Segment) : Type 0 where
  west : s.hi.x ≤ℤ t.lo.x → StandsUnder s t
  east : t.hi.x ≤ℤ s.lo.x → StandsUnder s t
  parted : (z : ℤ) → s.lo.y ≤ℤ z → s.hi.y ≤ℤ z → z ≤ℤ t.lo.y → z ≤ℤ t.hi.y → StandsUnder s t
  right : turn t s.lo ≤ℤ pos 0 → turn t s.hi ≤ℤ pos 0 → StandsUnder s t
  left : pos 0 ≤ℤ turn s t.lo → pos 0 ≤ℤ turn s t.hi → StandsUnder s t

-- what is above t is above s
above_too : (s t : Segment) (p : Point) → IsSegment s → IsSegment t → StandsUnder s t → Spans s p → Spans t p → pos 0 <ℤ cross t p
    → pos 0 <ℤ cross s p
above_too s t p u v (west h) c d e = absurd (omega (arith, ints, scaled_le s.hi.x t.lo.x p.w h, c.to, d.from))
above_too s t p u v (east h) c d e = absurd (omega (arith, ints, scaled_le t.hi.x s.lo.x p.w h, c.from, d.to))
above_too s t p u v (parted z a b m n) c d e =
    let k = low_end t p z d.from d.to m n e in
    cross_above s p c.from c.to (omega (arith, ints, scaled_le s.lo.y z p.w a, k)) (omega (arith, ints, scaled_le s.hi.y z p.w b, k))
above_too s t p u v (right a b) c d e = elim (cases_order_ℤ (pos 0) (cross s p)) [
  | inl h ↦ h
  | inr h ↦ absurd (omega (arith, ints, e, right_not_over t s p v c a b h))
]
above_too s t p u v (left a b) c d e = left_over s t p u d a b e

counts_from : (s : Segment) (p : Point) → spans p s ≡ true → pos 0 <ℤ cross s p → counts s p ≡ true
counts_from s p h k = three (int_le (s.lo.x *ℤ pos p.w) p.x) (int_lt p.x (s.hi.x *ℤ pos p.w)) (int_lt (pos 0) (cross s p)) h
    ((Decides-int_lt (pos 0) (cross s p)).1 k)
  where
    three : (b c d : Bool) → b && c ≡ true → d ≡ true → b && (c && d) ≡ true
    three true true d h k = k
    three true false d h k = absurd (false≢true h)
    three false c d h k = absurd (false≢true h)

counts_too : (s t : Segment) (p : Point) → IsSegment s → IsSegment t → StandsUnder s t → spans p s ≡ true → counts t p ≡ true → counts s p ≡ true
counts_too s t p u v h i c =
    let k = both_tests (s.lo.x *ℤ pos p.w) (s.hi.x *ℤ pos p.w) p.x i in
    let m = three_tests (t.lo.x *ℤ pos p.w) (t.hi.x *ℤ pos p.w) p.x (cross t p) c in
    counts_from s p i (above_too s t p u v h (record { from = k.0; to = k.1 }) (record { from = m.0; to = m.1 }) m.2)

-- ---- what the tests say
pub either : (b c : Bool) → b || c ≡ true → (b ≡ true) ⊎ (c ≡ true)
either true c e = inl refl
either false c e = inr e

pub at_most : (a b : ℤ) → int_le a b ≡ true → a ≤ℤ b
at_most a b e = (Decides-int_le a b).0 e

on_right : (t s : Segment) → lies_right t s ≡ true → (turn t s.lo ≤ℤ pos 0) × (turn t s.hi ≤ℤ pos 0)
on_right t s e =
    let k = both_parts (int_le (turn t s.lo) (pos 0)) (int_le (turn t s.hi) (pos 0)) e in
    (at_most (turn t s.lo) (pos 0) k.0, at_most (turn t s.hi) (pos 0) k.1)

on_left : (t s : Segment) → lies_left t s ≡ true → (pos 0 ≤ℤ turn t s.lo) × (pos 0 ≤ℤ turn t s.hi)
on_left t s e =
    let k = both_parts (int_le (pos 0) (turn t s.lo)) (int_le (pos 0) (turn t s.hi)) e in
    (at_most (pos 0) (turn t s.lo) k.0, at_most (pos 0) (turn t s.hi) k.1)

low_highest : (a b z : ℤ) → int_max a b ≤ℤ z → (a ≤ℤ z) × (b ≤ℤ z)
low_highest a b z h = (omega (arith, ints, clamps, h), omega (arith, ints, clamps, h))

high_lowest : (a b z : ℤ) → z ≤ℤ int_min a b → (z ≤ℤ a) × (z ≤ℤ b)
high_lowest a b z h = (omega (arith, ints, clamps, h), omega (arith, ints, clamps, h))

same : (z : ℤ) → z ≤ℤ z
same z = omega (arith, ints)

stands_under : (s t : Segment) → is_under s t ≡ true → StandsUnder s t
stands_under s t e = elim (either (int_le s.hi.x t.lo.x || int_le t.hi.x s.lo.x) (int_le (highest s) (lowest t) || (lies_right t s || lies_left s t)) e) [
  | inl h ↦ elim (either (int_le s.hi.x t.lo.x) (int_le t.hi.x s.lo.x) h) [
    | inl k ↦ west (at_most s.hi.x t.lo.x k)
    | inr k ↦ east (at_most t.hi.x s.lo.x k)
  ]
  | inr h ↦ elim (either (int_le (highest s) (lowest t)) (lies_right t s || lies_left s t) h) [
    | inl k ↦
        let m = low_highest s.lo.y s.hi.y (highest s) (same (highest s)) in
        let n = high_lowest t.lo.y t.hi.y (highest s) (at_most (highest s) (lowest t) k) in
        parted (highest s) m.0 m.1 n.0 n.1
    | inr k ↦ elim (either (lies_right t s) (lies_left s t) k) [
      | inl m ↦ let n = on_right t s m in right n.0 n.1
      | inr m ↦ let n = on_left s t m in left n.0 n.1
    ]
  ]
]

-- ---- rows
-- the turned segment, where it rises and where it falls
abbrev turned_by : Bool → Segment → Segment
turned_by b s = if b then risen s else fallen s

order_at : (lx ly hx hy : ℤ) → (lx <ℤ hx) ⊎ ((lx ≡ hx) × (ly <ℤ hy)) → (int_lt ly hy || (int_eq ly hy && int_lt lx hx)) ≡ int_le ly hy
order_at lx ly hx hy (inl h) = grind (arith, ints)
order_at lx ly hx hy (inr h) = let k = h.1 in grind (arith, ints)

turned_is : (s : Segment) → IsSegment s → turned_segment s ≡ turned_by (rises s) s
turned_is s u = ap (λ b. turned_by b s) (order_at s.lo.x s.lo.y s.hi.x s.hi.y u.ordered)

turned_proper : (b : Bool) (s : Segment) → rises s ≡ b → IsSegment s → IsSegment (turned_by b s)
turned_proper true s e u = record { ordered = rising s.lo.x s.lo.y s.hi.x s.hi.y (at_most s.lo.y s.hi.y e) u.ordered }
  where
    rising : (lx ly hx hy : ℤ) → ly ≤ℤ hy → (lx <ℤ hx) ⊎ ((lx ≡ hx) × (ly <ℤ hy)) → (ly <ℤ hy) ⊎ ((ly ≡ hy) × (lx <ℤ hx))
    rising lx ly hx hy h k = elim (cases_order_ℤ ly hy) [
      | inl m ↦ inl m
      | inr m ↦ inr (omega (arith, ints, h, m), elim k [ inl n ↦ n | inr n ↦ let i = n.1 in absurd (omega (arith, ints, i, m)) ])
    ]
turned_proper false s e u = record { ordered = inl (falling s.lo.y s.hi.y e) }
  where
    falling : (ly hy : ℤ) → int_le ly hy ≡ false → hy <ℤ ly
    falling ly hy h = grind (arith, ints)

-- what the ends of a turned segment are
both_x : (b : Bool) (s : Segment) → ((turned_by b s).hi.x ≤ℤ highest s) × (lowest s ≤ℤ (turned_by b s).lo.x)
both_x true s =
    ((low_highest s.lo.y s.hi.y (highest s) (same (highest s))).1, (high_lowest s.lo.y s.hi.y (lowest s) (same (lowest s))).0)
both_x false s =
    ((low_highest s.lo.y s.hi.y (highest s) (same (highest s))).0, (high_lowest s.lo.y s.hi.y (lowest s) (same (lowest s))).1)

below_east : (b : Bool) (s : Segment) → IsSegment s → ((turned_by b s).lo.y ≤ℤ s.hi.x) × ((turned_by b s).hi.y ≤ℤ s.hi.x)
below_east true s u = (ends_rise s u, same s.hi.x)
below_east false s u = (same s.hi.x, ends_rise s u)

above_west : (b : Bool) (s : Segment) → IsSegment s → (s.lo.x ≤ℤ (turned_by b s).lo.y) × (s.lo.x ≤ℤ (turned_by b s).hi.y)
above_west true s u = (same s.lo.x, ends_rise s u)
above_west false s u = (ends_rise s u, same s.lo.x)

-- a turn of what is turned: the other way where the segment rises
turns_same : (lx ly hx hy qx qy : ℤ) → (ly -ℤ hy) *ℤ (qx -ℤ hx) -ℤ (lx -ℤ hx) *ℤ (qy -ℤ hy) ≡ (hx -ℤ lx) *ℤ (qy -ℤ ly) -ℤ (hy -ℤ ly) *ℤ (qx -ℤ lx)
turns_same lx ly hx hy qx qy =
    same_by ((num ly ⊖ num hy) ⊗ (num qx ⊖ num hx) ⊖ (num lx ⊖ num hx) ⊗ (num qy ⊖ num hy))
    ((num hx ⊖ num lx) ⊗ (num qy ⊖ num ly) ⊖ (num hy ⊖ num ly) ⊗ (num qx ⊖ num lx)) (omega arith)

turn_rising : (t : Segment) (q : Place) → turn (turned_by true t) (turned_place q) ≡ neg_ℤ (turn t q)
turn_rising t q = kept_cross (t.hi.x -ℤ t.lo.x) (q.y -ℤ t.lo.y) (q.x -ℤ t.lo.x) (t.hi.y -ℤ t.lo.y)

turn_falling : (t : Segment) (q : Place) → turn (turned_by false t) (turned_place q) ≡ turn t q
turn_falling t q = turns_same t.lo.x t.lo.y t.hi.x t.hi.y q.x q.y

under_turned : (z : ℤ) → pos 0 ≤ℤ z → neg_ℤ z ≤ℤ pos 0
under_turned z h = omega (arith, ints)

-- the ends of a turned segment are those of the segment, turned
at_ends : (P : Place → Type 0) (b : Bool) (s : Segment) → P (turned_place s.lo) → P (turned_place s.hi)
    → P (turned_by b s).lo × P (turned_by b s).hi
at_ends P true s h k = (h, k)
at_ends P false s h k = (k, h)

right_of_turned : (b c : Bool) (s t : Segment) → (if c then lies_left t s else lies_right t s) ≡ true
    → (turn (turned_by c t) (turned_by b s).lo ≤ℤ pos 0) × (turn (turned_by c t) (turned_by b s).hi ≤ℤ pos 0)
right_of_turned b true s t e =
    let k = on_left t s e in
    at_ends (λ q. turn (turned_by true t) q ≤ℤ pos 0) b s (rw (turn_rising t s.lo) (under_turned (turn t s.lo) k.0))
    (rw (turn_rising t s.hi) (under_turned (turn t s.hi) k.1))
right_of_turned b false s t e =
    let k = on_right t s e in
    at_ends (λ q. turn (turned_by false t) q ≤ℤ pos 0) b s (rw (turn_falling t s.lo) k.0) (rw (turn_falling t s.hi) k.1)

left_of_turned : (b c : Bool) (s t : Segment) → (if b then lies_right s t else lies_left s t) ≡ true
    → (pos 0 ≤ℤ turn (turned_by b s) (turned_by c t).lo) × (pos 0 ≤ℤ turn (turned_by b s) (turned_by c t).hi)
left_of_turned true c s t e =
    let k = on_right s t e in
    at_ends (λ q. pos 0 ≤ℤ turn (turned_by true s) q) c t (rw (turn_rising s t.lo) (turned_at_least (turn s t.lo) k.0))
    (rw (turn_rising s t.hi) (turned_at_least (turn s t.hi) k.1))
left_of_turned false c s t e =
    let k = on_left s t e in
    at_ends (λ q. pos 0 ≤ℤ turn (turned_by false s) q) c t (rw (turn_falling s t.lo) k.0) (rw (turn_falling s t.hi) k.1)

-- s before t in rows is s under t, both turned
stands_turned : (s t : Segment) → IsSegment s → IsSegment t → is_before s t ≡ true → StandsUnder (turned_by (rises s) s) (turned_by (rises t) t)
stands_turned s t u v e =
    let beside = (if rises t then lies_left t s else lies_right t s) || (if rises s then lies_right s t else lies_left s t) in
    elim (either (int_le (highest s) (lowest t) || int_le (highest t) (lowest s)) (int_le s.hi.x t.lo.x || beside) e) [
      | inl h ↦ elim (either (int_le (highest s) (lowest t)) (int_le (highest t) (lowest s)) h) [
        | inl k ↦
            west (omega (arith, ints, (both_x (rises s) s).0, at_most (highest s) (lowest t) k, (both_x (rises t) t).1))
        | inr k ↦
            east (omega (arith, ints, (both_x (rises t) t).0, at_most (highest t) (lowest s) k, (both_x (rises s) s).1))
      ]
      | inr h ↦ elim (either (int_le s.hi.x t.lo.x) beside h) [
        | inl k ↦
            let o = at_most s.hi.x t.lo.x k in
            let m = below_east (rises s) s u in
            let n = above_west (rises t) t v in
            parted s.hi.x m.0 m.1 (omega (arith, ints, o, n.0)) (omega (arith, ints, o, n.1))
        | inr k ↦ elim (either (if rises t then lies_left t s else lies_right t s) (if rises s then lies_right s t else lies_left s t) k) [
          | inl m ↦ let n = right_of_turned (rises s) (rises t) s t m in right n.0 n.1
          | inr m ↦ let n = left_of_turned (rises s) (rises t) s t m in left n.0 n.1
        ]
      ]
    ]

-- ---- polygons
-- the segments seen as they are, or turned; p as it is, or turned too
module _ (test : Segment → Segment → Bool) (seen : Segment → Segment) (p : Point)
    (too : (s t : Segment) → IsSegment s → IsSegment t → test s t ≡ true → spans p (seen s) ≡ true → counts (seen t) p ≡ true
    → counts (seen s) p ≡ true) where
  idle_alone : (b c : Bool) → differ b c ≡ true → (c ≡ true → b ≡ true) → (b ≡ true → c ≡ true) → ⊥
  unfolding differ
  idle_alone true true e h k = false≢true e
  idle_alone true false e h k = false≢true (k refl)
  idle_alone false true e h k = false≢true (h refl)
  idle_alone false false e h k = false≢true e

  spans_of : (s : Segment) → counts s p ≡ true → spans p s ≡ true
  spans_of s e = first_two (int_le (s.lo.x *ℤ pos p.w) p.x) (int_lt p.x (s.hi.x *ℤ pos p.w)) (int_lt (pos 0) (cross s p)) e
    where
      first_two : (b c d : Bool) → b && (c && d) ≡ true → b && c ≡ true
      first_two true true d e = refl
      first_two true false d e = absurd (false≢true e)
      first_two false c d e = absurd (false≢true e)

  none_over : (s : Segment) → IsSegment s → differ (counts (seen s) p) (spans p (seen s)) ≡ true → (vs : List Segment)
      → Every IsSegment vs → list_all (test s) vs ≡ true → SomeOf (λ t. counts (seen t) p ≡ true) vs → ⊥
  none_over s u i [] v e h = h
  none_over s u i (t ∷ vs) v e (inl h) =
      idle_alone (counts (seen s) p) (spans p (seen s)) i (λ k. too s t u v.0 (both_parts (test s t) (list_all (test s) vs) e).0 k h) (spans_of (seen s))
  none_over s u i (t ∷ vs) v e (inr h) = none_over s u i vs v.1 (both_parts (test s t) (list_all (test s) vs) e).1 h

  none_between : (us vs : List Segment) → Every IsSegment us → Every IsSegment vs → list_all (λ s. list_all (test s) vs) us ≡ true
      → SomeOf (λ s. differ (counts (seen s) p) (spans p (seen s)) ≡ true) us → SomeOf (λ t. counts (seen t) p ≡ true) vs → ⊥
  none_between [] vs u v e i h = i
  none_between (s ∷ us) vs u v e (inl i) h =
      none_over s u.0 i vs v (both_parts (list_all (test s) vs) (list_all (λ s. list_all (test s) vs) us) e).0 h
  none_between (s ∷ us) vs u v e (inr i) h =
      none_between us vs u.1 v (both_parts (list_all (test s) vs) (list_all (λ s. list_all (test s) vs) us) e).1 i h

under_too : (p : Point) (s t : Segment) → IsSegment s → IsSegment t → is_under s t ≡ true → spans p s ≡ true → counts t p ≡ true
    → counts s p ≡ true
under_too p s t u v e = counts_too s t p u v (stands_under s t e)

before_too : (p : Point) (s t : Segment) → IsSegment s → IsSegment t → is_before s t ≡ true → spans p (turned_segment s) ≡ true
    → counts (turned_segment t) p ≡ true → counts (turned_segment s) p ≡ true
before_too p s t u v e =
    rw (turned_is s u, turned_is t v) (counts_too (turned_by (rises s) s) (turned_by (rises t) t) p (turned_proper (rises s) s refl u)
    (turned_proper (rises t) t refl v) (stands_turned s t u v e))

-- in the row of an inside point some side stands left of it, and some right of it or on it
some_turned : (f : Feature) (p : Point) → f.shape.kind ≡ shapes.Polygon → IsInside (sides f) p
    → SomeOf (λ s. counts (turned_segment s) (turned_point p) ≡ true) (sides f)
some_turned f p e i = some_passes (λ s. counts (turned_segment s) (turned_point p)) (sides f) (turned_odd f p e i)

some_idle_turned : (f : Feature) (p : Point) → f.shape.kind ≡ shapes.Polygon → IsInside (sides f) p
    → SomeOf (λ s. differ (counts (turned_segment s) (turned_point p)) (spans (turned_point p) (turned_segment s)) ≡ true) (sides f)
unfolding differ
some_idle_turned f p e i =
    some_passes (λ s. differ (counts (turned_segment s) (turned_point p)) (spans (turned_point p) (turned_segment s))) (sides f)
    (odd_differ (λ s. counts (turned_segment s) (turned_point p)) (λ s. spans (turned_point p) (turned_segment s)) (sides f)
    ∙ rw (turned_odd f p e i, turned_even f p e) refl)

no_common : (o : Order) (f g : Feature) (p : Point) → IsFit shapes.Polygon f → IsFit shapes.Polygon g → IsInside (sides f) p
    → IsInside (sides g) p → are_ordered o (sides f) (sides g) ≡ true → ⊥
no_common order.Under f g p u v i j e =
    none_between is_under (λ s. s) p (under_too p) (sides f) (sides g) u.proper v.proper e (some_idle f p u.kind i)
    (some_passes (λ s. counts s p) (sides g) j.odd)
no_common order.Before f g p u v i j e =
    none_between is_before turned_segment (turned_point p) (before_too (turned_point p)) (sides f) (sides g) u.proper v.proper e
    (some_idle_turned f p u.kind i) (some_turned g p v.kind j)

pub stacked_common : (f g : Feature) → IsFit shapes.Polygon f → IsFit shapes.Polygon g → AreStacked (sides f) (sides g) → overlap_cells f g ≡ []
stacked_common f g u v (o, inl h) = none_common f g u v (λ p i j. no_common o f g p u v i j h)
stacked_common f g u v (o, inr h) = none_common f g u v (λ p i j. no_common o g f p v u j i h)

-- Points between two points: weighted middles, the ends, and the other way round.
use Rattle.std.proofs.Common.{◌≡◌, ℕ, ◌*◌, ◌<◌, ℤ, pos, ◌+ℤ◌, ◌-ℤ◌, ◌*ℤ◌, ◌≤ℤ◌, ◌<ℤ◌, ◌↔◌, arith, sym, refl, inl, inr, ◌∙◌, Bool, true, false}
use Rattle.std.proofs.lemmas.Int.{ints}
use Rattle.std.specs.Prelude.{if◌then◌else◌}
use Rattle.std.proofs.Math.Nat.{mul-pos}
use Rattle.plane_terms.specs.Point.{Place, Point, IsAt, right_by, up_by}
use Rattle.plane_terms.specs.Segment.{Segment, cross, comes_before, segment_between, IsBetween, OnSegment}
use Rattle.plane_terms.specs.Between.{GoOneWay, LiesBetween}
use Rattle.number_laws.proofs.Ring.{num, ◌⊕◌, ◌⊖◌, ◌⊗◌, same_by, le_by, le_read}
use Rattle.number_laws.proofs.Order.{product_at_least, zero_unscaled, natural, scaled_le, le_from_scaled, cases_order_ℤ}
use Rattle.cell_laws.proofs.Meeting.{times_zero}
use Rattle.column_laws.proofs.Signs.{most_scaled}

-- r is n times p and m times q
pub record Weighed (p q r : Point) (n m : ℤ) : Type 0 where
  pub n_least : pos 0 ≤ℤ n
  pub m_least : pos 0 ≤ℤ m
  pub w_is : pos r.w ≡ n *ℤ pos p.w +ℤ m *ℤ pos q.w
  pub x_is : r.x ≡ n *ℤ p.x +ℤ m *ℤ q.x
  pub y_is : r.y ≡ n *ℤ p.y +ℤ m *ℤ q.y

pub weighed_point : (p q : Point) (n m : ℤ) → pos 0 ≤ℤ n → pos 0 ≤ℤ m → pos 0 <ℤ (n *ℤ pos p.w +ℤ m *ℤ pos q.w)
    → (r : Point) × Weighed p q r n m
weighed_point p q n m h k o =
    let w = natural (n *ℤ pos p.w +ℤ m *ℤ pos q.w) o in (
      record { x = n *ℤ p.x +ℤ m *ℤ q.x; y = n *ℤ p.y +ℤ m *ℤ q.y; w = w.0; positive = w.1 },
      record { n_least = h; m_least = k; w_is = sym w.2; x_is = refl; y_is = refl },
    )

-- ---- one way
one_way_by : (a b n m d : ℤ) → a ≡ m *ℤ d → b ≡ n *ℤ d → pos 0 ≤ℤ n → pos 0 ≤ℤ m → GoOneWay a b
one_way_by a b n m d e f h k = rw (e, f) (elim (cases_order_ℤ d (pos 0)) [
  | inl l ↦ inr (under m k (omega (arith, ints)), under n h (omega (arith, ints)))
  | inr l ↦ inl (product_at_least m d k l, product_at_least n d h l)
])
  where
    turned : (n d : ℤ) → d *ℤ n ≡ n *ℤ d
    turned n d = same_by (num d ⊗ num n) (num n ⊗ num d) (omega arith)

    under : (n : ℤ) → pos 0 ≤ℤ n → d ≤ℤ pos 0 → (n *ℤ d) ≤ℤ pos 0
    under n h l = rw (← turned n d) (most_scaled d n l h)

-- from the first point to the weighted middle, and from there to the second
from_first : (a b v w n m : ℤ) → (n *ℤ a +ℤ m *ℤ b) *ℤ v -ℤ a *ℤ (n *ℤ v +ℤ m *ℤ w) ≡ m *ℤ (b *ℤ v -ℤ a *ℤ w)
from_first a b v w n m =
    same_by ((num n ⊗ num a ⊕ num m ⊗ num b) ⊗ num v ⊖ num a ⊗ (num n ⊗ num v ⊕ num m ⊗ num w))
    (num m ⊗ (num b ⊗ num v ⊖ num a ⊗ num w)) (omega arith)

to_second : (a b v w n m : ℤ) → b *ℤ (n *ℤ v +ℤ m *ℤ w) -ℤ (n *ℤ a +ℤ m *ℤ b) *ℤ w ≡ n *ℤ (b *ℤ v -ℤ a *ℤ w)
to_second a b v w n m =
    same_by (num b ⊗ (num n ⊗ num v ⊕ num m ⊗ num w) ⊖ (num n ⊗ num a ⊕ num m ⊗ num b) ⊗ num w)
    (num n ⊗ (num b ⊗ num v ⊖ num a ⊗ num w)) (omega arith)

same_slope : (d u m a b : ℤ) → a ≡ m *ℤ d → b ≡ m *ℤ u → d *ℤ b ≡ u *ℤ a
same_slope d u m a b e f = rw (e, f) (same_by (num d ⊗ (num m ⊗ num u)) (num u ⊗ (num m ⊗ num d)) (omega arith))

pub lies_weighed : (p q r : Point) (n m : ℤ) → Weighed p q r n m → LiesBetween p q r
lies_weighed p q r n m h =
    let right : right_by p r ≡ m *ℤ right_by p q = rw (h.w_is, h.x_is) (from_first p.x q.x (pos p.w) (pos q.w) n m) in
    let up : up_by p r ≡ m *ℤ up_by p q = rw (h.w_is, h.y_is) (from_first p.y q.y (pos p.w) (pos q.w) n m) in
    let right_on : right_by r q ≡ n *ℤ right_by p q = rw (h.w_is, h.x_is) (to_second p.x q.x (pos p.w) (pos q.w) n m) in
    let up_on : up_by r q ≡ n *ℤ up_by p q = rw (h.w_is, h.y_is) (to_second p.y q.y (pos p.w) (pos q.w) n m) in
    record {
      straight = same_slope (right_by p q) (up_by p q) m (right_by p r) (up_by p r) right up;
      across = one_way_by (right_by p r) (right_by r q) n m (right_by p q) right right_on h.n_least h.m_least;
      along = one_way_by (up_by p r) (up_by r q) n m (up_by p q) up up_on h.n_least h.m_least;
    }

-- ---- the second end
pub second_between : (p q : Point) → LiesBetween p q q
second_between p q = lies_weighed p q q (pos 0) (pos 1) (record {
  n_least = omega (arith, ints);
  m_least = omega (arith, ints);
  w_is = once (pos p.w) (pos q.w);
  x_is = once p.x q.x;
  y_is = once p.y q.y;
})
  where
    once : (a b : ℤ) → b ≡ pos 0 *ℤ a +ℤ pos 1 *ℤ b
    once a b = same_by (num b) (num (pos 0) ⊗ num a ⊕ num (pos 1) ⊗ num b) (omega arith)

-- ---- the other way round
less : {u v : ℤ} → u ≡ v → u -ℤ v ≡ pos 0
less {u} {v} e = omega (arith, ints)

level : {u v : ℤ} → u -ℤ v ≡ pos 0 → u ≡ v
level {u} {v} e = omega (arith, ints)

way_back : (a b c d : ℤ) → GoOneWay (a -ℤ b) (c -ℤ d) → GoOneWay (d -ℤ c) (b -ℤ a)
way_back a b c d (inl h) = inr (omega (arith, ints, h.0, h.1), omega (arith, ints, h.0, h.1))
way_back a b c d (inr h) = inl (omega (arith, ints, h.0, h.1), omega (arith, ints, h.0, h.1))

-- the turn at p from q to r, and the one at q from r to p
turns_same : (px py qx qy rx ry : ℤ) (v w z : ℕ)
    → pos w *ℤ ((qx *ℤ pos v -ℤ px *ℤ pos w) *ℤ (ry *ℤ pos v -ℤ py *ℤ pos z) -ℤ (qy *ℤ pos v -ℤ py *ℤ pos w) *ℤ (rx *ℤ pos v -ℤ px *ℤ pos z))
    ≡ pos v *ℤ ((py *ℤ pos w -ℤ qy *ℤ pos v) *ℤ (rx *ℤ pos w -ℤ qx *ℤ pos z) -ℤ (px *ℤ pos w -ℤ qx *ℤ pos v) *ℤ (ry *ℤ pos w -ℤ qy *ℤ pos z))
turns_same px py qx qy rx ry v w z =
    let by = λ (a b : ℤ) (k n : ℕ). num b ⊗ num (pos k) ⊖ num a ⊗ num (pos n) in
    same_by (num (pos w) ⊗ (by px qx v w ⊗ by py ry v z ⊖ by py qy v w ⊗ by px rx v z))
    (num (pos v) ⊗ (by qy py w v ⊗ by qx rx w z ⊖ by qx px w v ⊗ by qy ry w z)) (omega arith)

pub between_back : (p q r : Point) → LiesBetween q p r → LiesBetween p q r
between_back p q r h = record {
  straight = level (zero_unscaled (pos q.w)
      (right_by p q *ℤ up_by p r -ℤ up_by p q *ℤ right_by p r) (omega (arith, ints, q.positive))
      (turns_same p.x p.y q.x q.y r.x r.y p.w q.w r.w
      ∙ none (pos p.w) (up_by q p *ℤ right_by q r) (right_by q p *ℤ up_by q r) (sym h.straight)));
  across = way_back (r.x *ℤ pos q.w) (q.x *ℤ pos r.w) (p.x *ℤ pos r.w) (r.x *ℤ pos p.w) h.across;
  along = way_back (r.y *ℤ pos q.w) (q.y *ℤ pos r.w) (p.y *ℤ pos r.w) (r.y *ℤ pos p.w) h.along;
}
  where
    none : (w u v : ℤ) → u ≡ v → w *ℤ (u -ℤ v) ≡ pos 0
    none w u v e = rw e (same_by (num w ⊗ (num v ⊖ num v)) (num (pos 0)) (omega arith))

-- ---- between two places
-- the turn of three points, two of them at places, is a multiple of the cross product
turn_at : (ax ay bx by rx ry : ℤ) (v w z : ℕ)
    → ((bx *ℤ pos w) *ℤ pos v -ℤ (ax *ℤ pos v) *ℤ pos w) *ℤ (ry *ℤ pos v -ℤ (ay *ℤ pos v) *ℤ pos z) -ℤ
    ((by *ℤ pos w) *ℤ pos v -ℤ (ay *ℤ pos v) *ℤ pos w) *ℤ (rx *ℤ pos v -ℤ (ax *ℤ pos v) *ℤ pos z)
    ≡ pos (v * v * w) *ℤ ((bx -ℤ ax) *ℤ (ry -ℤ ay *ℤ pos z) -ℤ (by -ℤ ay) *ℤ (rx -ℤ ax *ℤ pos z))
turn_at ax ay bx by rx ry v w z =
    let i = num (pos v) in
    let j = num (pos w) in
    let k = num (pos z) in
    same_by (((num bx ⊗ j) ⊗ i ⊖ (num ax ⊗ i) ⊗ j) ⊗ (num ry ⊗ i ⊖ (num ay ⊗ i) ⊗ k) ⊖ ((num by ⊗ j) ⊗ i ⊖ (num ay ⊗ i) ⊗ j) ⊗
    (num rx ⊗ i ⊖ (num ax ⊗ i) ⊗ k))
    (num (pos (v * v * w)) ⊗ ((num bx ⊖ num ax) ⊗ (num ry ⊖ num ay ⊗ k) ⊖ (num by ⊖ num ay) ⊗ (num rx ⊖ num ax ⊗ k))) (omega arith)

pub natural_over : (w : ℕ) → 0 < w → pos 0 <ℤ pos w
natural_over w h = omega (arith, ints)

-- a coordinate x / z between a and b, from points whose denominators are v and w
from_way : (a b x : ℤ) (v w z : ℕ) → 0 < v → 0 < w → GoOneWay (x *ℤ pos v -ℤ (a *ℤ pos v) *ℤ pos z) ((b *ℤ pos w) *ℤ pos z -ℤ x *ℤ pos w)
    → IsBetween (a *ℤ pos z) (b *ℤ pos z) x
from_way a b x v w z pv pw (inl h) =
    let e = le_read (num (pos 0)) (num x ⊗ num (pos v) ⊖ (num a ⊗ num (pos v)) ⊗ num (pos z)) h.0 in
    let f = le_read (num (pos 0)) ((num b ⊗ num (pos w)) ⊗ num (pos z) ⊖ num x ⊗ num (pos w)) h.1 in
    inl (
      le_from_scaled (a *ℤ pos z) x v pv (le_by (num a ⊗ num (pos z) ⊗ num (pos v)) (num x ⊗ num (pos v)) (omega (arith, e))),
      le_from_scaled x (b *ℤ pos z) w pw (le_by (num x ⊗ num (pos w)) (num b ⊗ num (pos z) ⊗ num (pos w)) (omega (arith, f))),
    )
from_way a b x v w z pv pw (inr h) =
    let e = le_read (num x ⊗ num (pos v) ⊖ (num a ⊗ num (pos v)) ⊗ num (pos z)) (num (pos 0)) h.0 in
    let f = le_read ((num b ⊗ num (pos w)) ⊗ num (pos z) ⊖ num x ⊗ num (pos w)) (num (pos 0)) h.1 in
    inr (
      le_from_scaled (b *ℤ pos z) x w pw (le_by (num b ⊗ num (pos z) ⊗ num (pos w)) (num x ⊗ num (pos w)) (omega (arith, f))),
      le_from_scaled x (a *ℤ pos z) v pv (le_by (num x ⊗ num (pos v)) (num a ⊗ num (pos z) ⊗ num (pos v)) (omega (arith, e))),
    )

to_way : (a b x : ℤ) (v w z : ℕ) → IsBetween (a *ℤ pos z) (b *ℤ pos z) x
    → GoOneWay (x *ℤ pos v -ℤ (a *ℤ pos v) *ℤ pos z) ((b *ℤ pos w) *ℤ pos z -ℤ x *ℤ pos w)
to_way a b x v w z (inl h) =
    let e = le_read (num a ⊗ num (pos z) ⊗ num (pos v)) (num x ⊗ num (pos v)) (scaled_le (a *ℤ pos z) x v h.0) in
    let f = le_read (num x ⊗ num (pos w)) (num b ⊗ num (pos z) ⊗ num (pos w)) (scaled_le x (b *ℤ pos z) w h.1) in
    inl (
      le_by (num (pos 0)) (num x ⊗ num (pos v) ⊖ (num a ⊗ num (pos v)) ⊗ num (pos z)) (omega (arith, e)),
      le_by (num (pos 0)) ((num b ⊗ num (pos w)) ⊗ num (pos z) ⊖ num x ⊗ num (pos w)) (omega (arith, f)),
    )
to_way a b x v w z (inr h) =
    let e = le_read (num b ⊗ num (pos z) ⊗ num (pos w)) (num x ⊗ num (pos w)) (scaled_le (b *ℤ pos z) x w h.0) in
    let f = le_read (num x ⊗ num (pos v)) (num a ⊗ num (pos z) ⊗ num (pos v)) (scaled_le x (a *ℤ pos z) v h.1) in
    inr (
      le_by (num x ⊗ num (pos v) ⊖ (num a ⊗ num (pos v)) ⊗ num (pos z)) (num (pos 0)) (omega (arith, f)),
      le_by ((num b ⊗ num (pos w)) ⊗ num (pos z) ⊖ num x ⊗ num (pos w)) (num (pos 0)) (omega (arith, e)),
    )

between_on : (s : Segment) (p q r : Point) → IsAt s.lo p → IsAt s.hi q → LiesBetween p q r → OnSegment s r
between_on s p q r a b h =
    let straight = rw (a.x, a.y, b.x, b.y) at h.straight in
    let across = rw (a.x, b.x) at h.across in
    let along = rw (a.y, b.y) at h.along in
    record {
      straight = zero_unscaled (pos (p.w * p.w * q.w)) (cross s r)
          (natural_over (p.w * p.w * q.w) (mul-pos (mul-pos p.positive p.positive) q.positive))
          (sym (turn_at s.lo.x s.lo.y s.hi.x s.hi.y r.x r.y p.w q.w r.w) ∙ less straight);
      across = from_way s.lo.x s.hi.x r.x p.w q.w r.w p.positive q.positive across;
      along = from_way s.lo.y s.hi.y r.y p.w q.w r.w p.positive q.positive along;
    }

on_between : (s : Segment) (p q r : Point) → IsAt s.lo p → IsAt s.hi q → OnSegment s r → LiesBetween p q r
on_between s p q r a b o = record {
  straight = rw (a.x, a.y, b.x, b.y) (level
      (turn_at s.lo.x s.lo.y s.hi.x s.hi.y r.x r.y p.w q.w r.w ∙ times_zero (pos (p.w * p.w * q.w)) (cross s r) o.straight));
  across = rw (a.x, b.x) (to_way s.lo.x s.hi.x r.x p.w q.w r.w o.across);
  along = rw (a.y, b.y) (to_way s.lo.y s.hi.y r.y p.w q.w r.w o.along);
}

-- the segment between two places, by the test of their order
abbrev pub drawn : Place → Place → Bool → Segment
drawn u v t = if t then record { lo = u; hi = v; turned = false } else record { lo = v; hi = u; turned = true }

pub between_places : (a b : Place) (p q r : Point) → IsAt a p → IsAt b q → LiesBetween p q r ↔ OnSegment (segment_between a b) r
between_places a b p q r at_p at_q = by_order (comes_before a b)
  where
    by_order : (t : Bool) → LiesBetween p q r ↔ OnSegment (drawn a b t) r
    by_order true = (between_on (drawn a b true) p q r at_p at_q, on_between (drawn a b true) p q r at_p at_q)
    by_order false = (
      λ h. between_on (drawn a b false) q p r at_q at_p (between_back q p r h),
      λ o. between_back p q r (on_between (drawn a b false) q p r at_q at_p o),
    )

-- Two lines that have no common point inside a strip keep one order over the whole strip.
use Rattle.std.proofs.Common.{◌≡◌, ℕ, ◌+◌, ◌*◌, ◌<◌, ℤ, pos, ◌+ℤ◌, ◌-ℤ◌, ◌*ℤ◌, neg_ℤ, ◌≤ℤ◌, ◌<ℤ◌, arith, subst, inl, inr, ◌∙◌}
use Rattle.std.proofs.lemmas.Int.{ints}
use Rattle.std.proofs.Math.Nat.{mul-pos}
use Rattle.plane_terms.specs.Point.{Point}
use Rattle.plane_terms.specs.HalfPlane.{HalfPlane, value_at}
use Rattle.plane_terms.specs.Columns.{gap_at}
use Rattle.column_laws.specs.Slots.{IsAcross}
use Rattle.cell_laws.proofs.LinePoints.{gap_is, point_on, point_on-is, scaled_gap}
use Rattle.number_laws.proofs.Ring.{num, neg, ◌⊕◌, ◌⊖◌, ◌⊗◌, same_by, lt_by, le_read, lt_read}
use Rattle.column_laws.proofs.Signs.{under_unscaled, under_scaled}
use Rattle.number_laws.proofs.Order.{over_unscaled, zero_unscaled, turned_over, product_over, product_at_least, natural, lt_scaled, cases_order_ℤ}

-- it is on another line too where the two have no gap
pub point_on-other : (l m : HalfPlane) (x : ℤ) (w b : ℕ) (p : 0 < w) (q : 0 < b) → l.b ≡ pos b → pos 0 <ℤ l.b
    → gap_at l m x (pos w) ≡ pos 0 → value_at m (point_on l x w b p q) ≡ pos 0
unfolding point_on
point_on-other l m x w b p q e r z =
    let k = gap_is l m (point_on l x w b p q) in
    let f : gap_at l m (x *ℤ pos b) (pos (w * b)) ≡ pos b *ℤ gap_at l m x (pos w) = scaled_gap (l.a *ℤ m.b -ℤ m.a *ℤ l.b)
    (l.c *ℤ m.b -ℤ m.c *ℤ l.b) x w b in
    let on = point_on-is l x w b p q e in
    let v = value_at m (point_on l x w b p q) in
    zero_unscaled l.b v r (last m.b (value_at l (point_on l x w b p q)) l.b v (gap_at l m (x *ℤ pos b) (pos (w * b))) (pos b)
    (gap_at l m x (pos w)) k on f z)
  where
    last : (a v b u g c d : ℤ) → a *ℤ v ≡ b *ℤ u +ℤ g → v ≡ pos 0 → g ≡ c *ℤ d → d ≡ pos 0 → b *ℤ u ≡ pos 0
    last a v b u g c d k h f z =
        let e1 : a *ℤ v ≡ pos 0 = rw h (omega (arith, ints)) in
        let e2 : c *ℤ d ≡ pos 0 = rw z (omega (arith, ints)) in
        omega (arith, ints)

linear : (g h x1 x2 : ℤ) (w1 w2 m n : ℕ) → g *ℤ (pos n *ℤ x1 +ℤ pos m *ℤ x2) +ℤ h *ℤ pos (n * w1 + m * w2)
    ≡ pos n *ℤ (g *ℤ x1 +ℤ h *ℤ pos w1) +ℤ pos m *ℤ (g *ℤ x2 +ℤ h *ℤ pos w2)
linear g h x1 x2 w1 w2 m n =
    same_by (num g ⊗ (num (pos n) ⊗ num x1 ⊕ num (pos m) ⊗ num x2) ⊕ num h ⊗ num (pos (n * w1 + m * w2)))
    (num (pos n) ⊗ (num g ⊗ num x1 ⊕ num h ⊗ num (pos w1)) ⊕ num (pos m) ⊗ (num g ⊗ num x2 ⊕ num h ⊗ num (pos w2)))
    (omega arith)

-- where a linear function is m > 0 at one place and -n < 0 at another, it is 0 at their weighted middle
balanced : (u v : ℤ) (m n : ℕ) → u ≡ pos m → neg_ℤ v ≡ pos n → pos n *ℤ u +ℤ pos m *ℤ v ≡ pos 0
balanced u v m n e f =
    let k : v ≡ neg_ℤ (pos n) = omega (arith, ints) in
    rw (e, k) (same_by (num (pos n) ⊗ num (pos m) ⊕ num (pos m) ⊗ neg (num (pos n))) (num (pos 0)) (omega arith))

-- the middle is right of X where both are, and one strictly
right_middle : (t x1 x2 : ℤ) (w1 w2 m n : ℕ) → 0 < n → (t *ℤ pos w1) <ℤ x1 → (t *ℤ pos w2) ≤ℤ x2
    → (t *ℤ pos (n * w1 + m * w2)) <ℤ (pos n *ℤ x1 +ℤ pos m *ℤ x2)
right_middle t x1 x2 w1 w2 m n p h k =
    let a = product_over (pos n) (x1 -ℤ t *ℤ pos w1) (omega (arith, ints)) (omega (arith, ints)) in
    let b = product_at_least (pos m) (x2 -ℤ t *ℤ pos w2) (omega (arith, ints)) (omega (arith, ints)) in
    let a' = lt_read (num (pos 0)) (num (pos n) ⊗ (num x1 ⊖ num t ⊗ num (pos w1))) a in
    let b' = le_read (num (pos 0)) (num (pos m) ⊗ (num x2 ⊖ num t ⊗ num (pos w2))) b in
    lt_by (num t ⊗ num (pos (n * w1 + m * w2))) (num (pos n) ⊗ num x1 ⊕ num (pos m) ⊗ num x2) (omega (arith, a', b'))

left_middle : (t x1 x2 : ℤ) (w1 w2 m n : ℕ) → 0 < n → x1 <ℤ (t *ℤ pos w1) → x2 ≤ℤ (t *ℤ pos w2)
    → (pos n *ℤ x1 +ℤ pos m *ℤ x2) <ℤ (t *ℤ pos (n * w1 + m * w2))
left_middle t x1 x2 w1 w2 m n p h k =
    let a = product_over (pos n) (t *ℤ pos w1 -ℤ x1) (omega (arith, ints)) (omega (arith, ints)) in
    let b = product_at_least (pos m) (t *ℤ pos w2 -ℤ x2) (omega (arith, ints)) (omega (arith, ints)) in
    let a' = lt_read (num (pos 0)) (num (pos n) ⊗ (num t ⊗ num (pos w1) ⊖ num x1)) a in
    let b' = le_read (num (pos 0)) (num (pos m) ⊗ (num t ⊗ num (pos w2) ⊖ num x2)) b in
    lt_by (num (pos n) ⊗ num x1 ⊕ num (pos m) ⊗ num x2) (num t ⊗ num (pos (n * w1 + m * w2))) (omega (arith, a', b'))

-- p is between the lines x = s and x = t, and on neither
pub record IsWithin (s t : ℤ) (p : Point) : Type 0 where
  pub right : (s *ℤ pos p.w) <ℤ p.x
  pub left : p.x <ℤ (t *ℤ pos p.w)

pub record MeetWithin (s t : ℤ) (l m : HalfPlane) : Type 0 where
  pub at : Point
  pub first : value_at l at ≡ pos 0
  pub second : value_at m at ≡ pos 0
  pub within : IsWithin s t at

scale_right : (t x : ℤ) (w b : ℕ) → 0 < b → (t *ℤ pos w) <ℤ x → (t *ℤ pos (w * b)) <ℤ (x *ℤ pos b)
scale_right t x w b p h =
    let k = lt_read (num t ⊗ num (pos w) ⊗ num (pos b)) (num x ⊗ num (pos b)) (lt_scaled (t *ℤ pos w) x b p h) in
    lt_by (num t ⊗ num (pos (w * b))) (num x ⊗ num (pos b)) (omega (arith, k))

scale_left : (t x : ℤ) (w b : ℕ) → 0 < b → x <ℤ (t *ℤ pos w) → (x *ℤ pos b) <ℤ (t *ℤ pos (w * b))
scale_left t x w b p h =
    let k = lt_read (num x ⊗ num (pos b)) (num t ⊗ num (pos w) ⊗ num (pos b)) (lt_scaled x (t *ℤ pos w) b p h) in
    lt_by (num x ⊗ num (pos b)) (num t ⊗ num (pos (w * b))) (omega (arith, k))

pub point_on-within : (s t : ℤ) (l : HalfPlane) (x : ℤ) (w b : ℕ) (p : 0 < w) (q : 0 < b) → (s *ℤ pos w) <ℤ x → x <ℤ (t *ℤ pos w)
    → IsWithin s t (point_on l x w b p q)
unfolding point_on
point_on-within s t l x w b p q h k = record { right = scale_right s x w b q h; left = scale_left t x w b q k }

-- where the gap changes its sign, strictly inside at one of the two places, the lines meet inside
pub meet_within : (s t : ℤ) (l m : HalfPlane) (x1 x2 : ℤ) (w1 w2 : ℕ) → 0 < w1 → pos 0 <ℤ l.b → pos 0 <ℤ gap_at l m x1 (pos w1)
    → gap_at l m x2 (pos w2) <ℤ pos 0 → (s *ℤ pos w1) <ℤ x1 → x1 <ℤ (t *ℤ pos w1) → (s *ℤ pos w2) ≤ℤ x2 → x2 ≤ℤ (t *ℤ pos w2)
    → MeetWithin s t l m
meet_within s t l m x1 x2 w1 w2 pw pl h k r1 l1 r2 l2 =
    let b = natural l.b pl in
    let m' = natural (gap_at l m x1 (pos w1)) h in
    let n' = natural (neg_ℤ (gap_at l m x2 (pos w2))) (turned_over (gap_at l m x2 (pos w2)) k) in
    let x = pos n'.0 *ℤ x1 +ℤ pos m'.0 *ℤ x2 in
    let w = n'.0 * w1 + m'.0 * w2 in
    let pw' : 0 < w = omega (arith, mul-pos n'.1 pw) in
    let z : gap_at l m x (pos w) ≡ pos 0 = linear (l.a *ℤ m.b -ℤ m.a *ℤ l.b) (l.c *ℤ m.b -ℤ m.c *ℤ l.b) x1 x2 w1 w2 m'.0 n'.0
    ∙ balanced (gap_at l m x1 (pos w1)) (gap_at l m x2 (pos w2)) m'.0 n'.0 m'.2 n'.2 in
    record {
      at = point_on l x w b.0 pw' b.1;
      first = point_on-is l x w b.0 pw' b.1 b.2;
      second = point_on-other l m x w b.0 pw' b.1 b.2 pl z;
      within = point_on-within s t l x w b.0 pw' b.1 (right_middle s x1 x2 w1 w2 m'.0 n'.0 n'.1 r1 r2)
          (left_middle t x1 x2 w1 w2 m'.0 n'.0 n'.1 l1 l2);
    }

-- l is at most as high as m over the strip from s to t
pub record IsLower (s t : ℤ) (l m : HalfPlane) : Type 0 where
  pub over : (p : Point) → IsAcross s t p → pos 0 <ℤ value_at m p → pos 0 <ℤ value_at l p
  pub under : (p : Point) → IsAcross s t p → value_at l p <ℤ pos 0 → value_at m p <ℤ pos 0

pub lower_trans : (s t : ℤ) (k l m : HalfPlane) → IsLower s t k l → IsLower s t l m → IsLower s t k m
lower_trans s t k l m f g = record { over = λ p a h. f.over p a (g.over p a h); under = λ p a h. g.under p a (f.under p a h) }

-- the gap does not fall below zero
pub IsLower_from_gap : (s t : ℤ) (l m : HalfPlane) → pos 0 <ℤ l.b → pos 0 <ℤ m.b
    → ((p : Point) → IsAcross s t p → pos 0 ≤ℤ gap_at l m p.x (pos p.w)) → IsLower s t l m
IsLower_from_gap s t l m pl pm g =
    record {
      over = λ p a h. over_unscaled m.b (value_at l p) pm (up_by (m.b *ℤ value_at l p) (l.b *ℤ value_at m p) (gap_at l m p.x (pos p.w))
          (gap_is l m p) (product_over l.b (value_at m p) pl h) (g p a));
      under = λ p a h. under_unscaled l.b (value_at m p) pl (down_by (m.b *ℤ value_at l p) (l.b *ℤ value_at m p)
          (gap_at l m p.x (pos p.w)) (gap_is l m p) (under_scaled m.b (value_at l p) pm h) (g p a));
    }
  where
    up_by : (u v g : ℤ) → u ≡ v +ℤ g → pos 0 <ℤ v → pos 0 ≤ℤ g → pos 0 <ℤ u
    up_by u v g e h k = omega (arith, ints)

    down_by : (u v g : ℤ) → u ≡ v +ℤ g → u <ℤ pos 0 → pos 0 ≤ℤ g → v <ℤ pos 0
    down_by u v g e h k = omega (arith, ints)

-- ---- the order of two lines that do not meet inside
pub one_order : (s t : ℤ) (l m : HalfPlane) (x w : ℤ) → pos 0 <ℤ l.b → pos 0 <ℤ m.b → (v : ℕ) → 0 < v → w ≡ pos v → (s *ℤ w) <ℤ x
    → x <ℤ (t *ℤ w) → pos 0 <ℤ gap_at l m x w → ¬ (MeetWithin s t l m) → IsLower s t l m
one_order s t l m x w pl pm v pv e r q h apart =
    IsLower_from_gap s t l m pl pm (λ p a. elim (cases_order_ℤ (gap_at l m p.x (pos p.w)) (pos 0)) [
      | inl k ↦ absurd
          (apart (meet_within s t l m x p.x v p.w pv pl (subst (λ z. pos 0 <ℤ gap_at l m x z) e h) k (subst (λ z. (s *ℤ z) <ℤ x) e r)
          (subst (λ z. x <ℤ (t *ℤ z)) e q) a.right a.left))
      | inr k ↦ k
    ])

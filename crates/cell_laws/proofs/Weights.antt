-- A point of a segment as a weighted middle of its ends, and back.
use Rattle.std.proofs.Common.{◌≡◌, ℕ, ◌<◌, ℤ, pos, ◌+ℤ◌, ◌-ℤ◌, ◌*ℤ◌, ◌≤ℤ◌, ◌<ℤ◌, arith, inl, inr, ◌∙◌}
use Rattle.std.proofs.lemmas.Int.{ints}
use Rattle.plane_terms.specs.Point.{Point, IsAt}
use Rattle.plane_terms.specs.Segment.{Segment, IsSegment, cross, IsBetween, OnSegment}
use Rattle.number_laws.proofs.Ring.{num, ◌⊕◌, ◌⊖◌, ◌⊗◌, same_by, le_by, le_read}
use Rattle.number_laws.proofs.Order.{sum_at_least, product_at_least, least_under, square_least, product_over, le_from_scaled, cases_order_ℤ}

-- k times the point is n times the low end and m times the high one
pub record Weights (s : Segment) (p : Point) : Type 0 where
  pub m : ℤ
  pub n : ℤ
  pub k : ℤ
  pub m_least : pos 0 ≤ℤ m
  pub n_least : pos 0 ≤ℤ n
  pub k_over : pos 0 <ℤ k
  pub w_is : k *ℤ pos p.w ≡ n +ℤ m
  pub x_is : k *ℤ p.x ≡ n *ℤ s.lo.x +ℤ m *ℤ s.hi.x
  pub y_is : k *ℤ p.y ≡ n *ℤ s.lo.y +ℤ m *ℤ s.hi.y

from_low : (a b v : ℤ) (w : ℕ) → 0 < w → IsBetween (a *ℤ pos w) (b *ℤ pos w) v → pos 0 ≤ℤ ((b -ℤ a) *ℤ (v -ℤ a *ℤ pos w))
from_low a b v w p (inl h) =
    let o = le_from_scaled a b w p (omega (arith, ints, h.0, h.1)) in
    product_at_least (b -ℤ a) (v -ℤ a *ℤ pos w) (omega (arith, ints)) (omega (arith, ints, h.0))
from_low a b v w p (inr h) =
    let o = le_from_scaled b a w p (omega (arith, ints, h.0, h.1)) in
    least_under (b -ℤ a) (v -ℤ a *ℤ pos w) (omega (arith, ints)) (omega (arith, ints, h.1))

to_high : (a b v : ℤ) (w : ℕ) → 0 < w → IsBetween (a *ℤ pos w) (b *ℤ pos w) v → pos 0 ≤ℤ ((b -ℤ a) *ℤ (b *ℤ pos w -ℤ v))
to_high a b v w p (inl h) =
    let o = le_from_scaled a b w p (omega (arith, ints, h.0, h.1)) in
    product_at_least (b -ℤ a) (b *ℤ pos w -ℤ v) (omega (arith, ints)) (omega (arith, ints, h.1))
to_high a b v w p (inr h) =
    let o = le_from_scaled b a w p (omega (arith, ints, h.0, h.1)) in
    least_under (b -ℤ a) (b *ℤ pos w -ℤ v) (omega (arith, ints)) (omega (arith, ints, h.0))

long : (s : Segment) → IsSegment s → pos 0 <ℤ ((s.hi.x -ℤ s.lo.x) *ℤ (s.hi.x -ℤ s.lo.x) +ℤ (s.hi.y -ℤ s.lo.y) *ℤ (s.hi.y -ℤ s.lo.y))
long s g = elim g.ordered [
  | inl h ↦ first (product_over (s.hi.x -ℤ s.lo.x) (s.hi.x -ℤ s.lo.x) (omega (arith, ints)) (omega (arith, ints)))
      (square_least (s.hi.y -ℤ s.lo.y))
  | inr h ↦ second (square_least (s.hi.x -ℤ s.lo.x)) (product_over (s.hi.y -ℤ s.lo.y) (s.hi.y -ℤ s.lo.y) (omega (arith, ints, h.1))
      (omega (arith, ints, h.1)))
]
  where
    first : {u v : ℤ} → pos 0 <ℤ u → pos 0 ≤ℤ v → pos 0 <ℤ (u +ℤ v)
    first {u} {v} h k = omega (arith, ints)

    second : {u v : ℤ} → pos 0 ≤ℤ u → pos 0 <ℤ v → pos 0 <ℤ (u +ℤ v)
    second {u} {v} h k = omega (arith, ints)

sum_is : (lx ly hx hy x y w : ℤ) → ((hx -ℤ lx) *ℤ (hx -ℤ lx) +ℤ (hy -ℤ ly) *ℤ (hy -ℤ ly)) *ℤ w
    ≡ ((hx -ℤ lx) *ℤ (hx *ℤ w -ℤ x) +ℤ (hy -ℤ ly) *ℤ (hy *ℤ w -ℤ y)) +ℤ ((hx -ℤ lx) *ℤ (x -ℤ lx *ℤ w) +ℤ (hy -ℤ ly) *ℤ (y -ℤ ly *ℤ w))
sum_is lx ly hx hy x y w =
    let dx = num hx ⊖ num lx in
    let dy = num hy ⊖ num ly in
    let m = dx ⊗ (num x ⊖ num lx ⊗ num w) ⊕ dy ⊗ (num y ⊖ num ly ⊗ num w) in
    let n = dx ⊗ (num hx ⊗ num w ⊖ num x) ⊕ dy ⊗ (num hy ⊗ num w ⊖ num y) in
    same_by ((dx ⊗ dx ⊕ dy ⊗ dy) ⊗ num w) (n ⊕ m) (omega arith)

across_is : (lx ly hx hy x y w : ℤ) → ((hx -ℤ lx) *ℤ (hx -ℤ lx) +ℤ (hy -ℤ ly) *ℤ (hy -ℤ ly)) *ℤ x
    ≡ (((hx -ℤ lx) *ℤ (hx *ℤ w -ℤ x) +ℤ (hy -ℤ ly) *ℤ (hy *ℤ w -ℤ y)) *ℤ lx +ℤ
    ((hx -ℤ lx) *ℤ (x -ℤ lx *ℤ w) +ℤ (hy -ℤ ly) *ℤ (y -ℤ ly *ℤ w)) *ℤ hx) -ℤ (hy -ℤ ly) *ℤ
    ((hx -ℤ lx) *ℤ (y -ℤ ly *ℤ w) -ℤ (hy -ℤ ly) *ℤ (x -ℤ lx *ℤ w))
across_is lx ly hx hy x y w =
    let dx = num hx ⊖ num lx in
    let dy = num hy ⊖ num ly in
    let m = dx ⊗ (num x ⊖ num lx ⊗ num w) ⊕ dy ⊗ (num y ⊖ num ly ⊗ num w) in
    let n = dx ⊗ (num hx ⊗ num w ⊖ num x) ⊕ dy ⊗ (num hy ⊗ num w ⊖ num y) in
    same_by ((dx ⊗ dx ⊕ dy ⊗ dy) ⊗ num x)
    ((n ⊗ num lx ⊕ m ⊗ num hx) ⊖ dy ⊗ (dx ⊗ (num y ⊖ num ly ⊗ num w) ⊖ dy ⊗ (num x ⊖ num lx ⊗ num w))) (omega arith)

along_is : (lx ly hx hy x y w : ℤ) → ((hx -ℤ lx) *ℤ (hx -ℤ lx) +ℤ (hy -ℤ ly) *ℤ (hy -ℤ ly)) *ℤ y
    ≡ (((hx -ℤ lx) *ℤ (hx *ℤ w -ℤ x) +ℤ (hy -ℤ ly) *ℤ (hy *ℤ w -ℤ y)) *ℤ ly +ℤ
    ((hx -ℤ lx) *ℤ (x -ℤ lx *ℤ w) +ℤ (hy -ℤ ly) *ℤ (y -ℤ ly *ℤ w)) *ℤ hy) +ℤ (hx -ℤ lx) *ℤ
    ((hx -ℤ lx) *ℤ (y -ℤ ly *ℤ w) -ℤ (hy -ℤ ly) *ℤ (x -ℤ lx *ℤ w))
along_is lx ly hx hy x y w =
    let dx = num hx ⊖ num lx in
    let dy = num hy ⊖ num ly in
    let m = dx ⊗ (num x ⊖ num lx ⊗ num w) ⊕ dy ⊗ (num y ⊖ num ly ⊗ num w) in
    let n = dx ⊗ (num hx ⊗ num w ⊖ num x) ⊕ dy ⊗ (num hy ⊗ num w ⊖ num y) in
    same_by ((dx ⊗ dx ⊕ dy ⊗ dy) ⊗ num y)
    ((n ⊗ num ly ⊕ m ⊗ num hy) ⊕ dx ⊗ (dx ⊗ (num y ⊖ num ly ⊗ num w) ⊖ dy ⊗ (num x ⊖ num lx ⊗ num w))) (omega arith)

less_zero : (u v d z : ℤ) → u ≡ v -ℤ d *ℤ z → z ≡ pos 0 → u ≡ v
less_zero u v d z e h = e ∙ rw h (omega (arith, ints))

more_zero : (u v d z : ℤ) → u ≡ v +ℤ d *ℤ z → z ≡ pos 0 → u ≡ v
more_zero u v d z e h = e ∙ rw h (omega (arith, ints))

pub weights : (s : Segment) (p : Point) → IsSegment s → OnSegment s p → Weights s p
weights s p g o =
    let w = pos p.w in
    let dx = s.hi.x -ℤ s.lo.x in
    let dy = s.hi.y -ℤ s.lo.y in
    let m = dx *ℤ (p.x -ℤ s.lo.x *ℤ w) +ℤ dy *ℤ (p.y -ℤ s.lo.y *ℤ w) in
    let n = dx *ℤ (s.hi.x *ℤ w -ℤ p.x) +ℤ dy *ℤ (s.hi.y *ℤ w -ℤ p.y) in
    let k = dx *ℤ dx +ℤ dy *ℤ dy in
    record {
      m = m;
      n = n;
      k = k;
      m_least = sum_at_least (dx *ℤ (p.x -ℤ s.lo.x *ℤ w)) (dy *ℤ (p.y -ℤ s.lo.y *ℤ w)) (from_low s.lo.x s.hi.x p.x p.w p.positive o.across)
          (from_low s.lo.y s.hi.y p.y p.w p.positive o.along);
      n_least = sum_at_least (dx *ℤ (s.hi.x *ℤ w -ℤ p.x)) (dy *ℤ (s.hi.y *ℤ w -ℤ p.y)) (to_high s.lo.x s.hi.x p.x p.w p.positive o.across)
          (to_high s.lo.y s.hi.y p.y p.w p.positive o.along);
      k_over = long s g;
      w_is = sum_is s.lo.x s.lo.y s.hi.x s.hi.y p.x p.y w;
      x_is = less_zero (k *ℤ p.x) (n *ℤ s.lo.x +ℤ m *ℤ s.hi.x) dy (cross s p)
          (across_is s.lo.x s.lo.y s.hi.x s.hi.y p.x p.y w) o.straight;
      y_is = more_zero (k *ℤ p.y) (n *ℤ s.lo.y +ℤ m *ℤ s.hi.y) dx (cross s p) (along_is s.lo.x s.lo.y s.hi.x s.hi.y p.x p.y w) o.straight;
    }

-- ---- back: the weighted middle is on the segment
mixed_straight : (lx ly hx hy n m : ℤ)
    → (hx -ℤ lx) *ℤ ((n *ℤ ly +ℤ m *ℤ hy) -ℤ ly *ℤ (n +ℤ m)) -ℤ (hy -ℤ ly) *ℤ ((n *ℤ lx +ℤ m *ℤ hx) -ℤ lx *ℤ (n +ℤ m)) ≡ pos 0
mixed_straight lx ly hx hy n m =
    let dx = num hx ⊖ num lx in
    let dy = num hy ⊖ num ly in
    same_by (dx ⊗ ((num n ⊗ num ly ⊕ num m ⊗ num hy) ⊖ num ly ⊗ (num n ⊕ num m)) ⊖ dy ⊗
    ((num n ⊗ num lx ⊕ num m ⊗ num hx) ⊖ num lx ⊗ (num n ⊕ num m))) (num (pos 0)) (omega arith)

mixed_least : (a b n m : ℤ) → pos 0 ≤ℤ m → a ≤ℤ b → (a *ℤ (n +ℤ m)) ≤ℤ (n *ℤ a +ℤ m *ℤ b)
mixed_least a b n m h k =
    le_by (num a ⊗ (num n ⊕ num m)) (num n ⊗ num a ⊕ num m ⊗ num b)
    (omega (arith, le_read (num (pos 0)) (num m ⊗ (num b ⊖ num a)) (product_at_least m (b -ℤ a) h (omega (arith, ints)))))

mixed_most : (a b n m : ℤ) → pos 0 ≤ℤ n → a ≤ℤ b → (n *ℤ a +ℤ m *ℤ b) ≤ℤ (b *ℤ (n +ℤ m))
mixed_most a b n m h k =
    le_by (num n ⊗ num a ⊕ num m ⊗ num b) (num b ⊗ (num n ⊕ num m))
    (omega (arith, le_read (num (pos 0)) (num n ⊗ (num b ⊖ num a)) (product_at_least n (b -ℤ a) h (omega (arith, ints)))))

mixed_between : (a b n m : ℤ) → pos 0 ≤ℤ n → pos 0 ≤ℤ m → IsBetween (a *ℤ (n +ℤ m)) (b *ℤ (n +ℤ m)) (n *ℤ a +ℤ m *ℤ b)
mixed_between a b n m h k = elim (cases_order_ℤ b a) [
  | inl o ↦ inr (low (omega (arith, ints)), high (omega (arith, ints)))
  | inr o ↦ inl (mixed_least a b n m k o, mixed_most a b n m h o)
]
  where
    low : b ≤ℤ a → (b *ℤ (n +ℤ m)) ≤ℤ (n *ℤ a +ℤ m *ℤ b)
    low o = le_by (num b ⊗ (num n ⊕ num m)) (num n ⊗ num a ⊕ num m ⊗ num b)
        (omega (arith, le_read (num (pos 0)) (num n ⊗ (num a ⊖ num b)) (product_at_least n (a -ℤ b) h (omega (arith, ints)))))

    high : b ≤ℤ a → (n *ℤ a +ℤ m *ℤ b) ≤ℤ (a *ℤ (n +ℤ m))
    high o = le_by (num n ⊗ num a ⊕ num m ⊗ num b) (num a ⊗ (num n ⊕ num m))
        (omega (arith, le_read (num (pos 0)) (num m ⊗ (num a ⊖ num b)) (product_at_least m (a -ℤ b) k (omega (arith, ints)))))

-- the point is n times the low end and m times the high one
pub record Mixed (s : Segment) (p : Point) (n m : ℤ) : Type 0 where
  pub n_least : pos 0 ≤ℤ n
  pub m_least : pos 0 ≤ℤ m
  pub w_is : pos p.w ≡ n +ℤ m
  pub x_is : p.x ≡ n *ℤ s.lo.x +ℤ m *ℤ s.hi.x
  pub y_is : p.y ≡ n *ℤ s.lo.y +ℤ m *ℤ s.hi.y

pub on_mixed : (s : Segment) (p : Point) (n m : ℤ) → Mixed s p n m → OnSegment s p
on_mixed s p n m h = record {
  straight = rw (h.w_is, h.x_is, h.y_is) (mixed_straight s.lo.x s.lo.y s.hi.x s.hi.y n m);
  across = rw (h.w_is, h.x_is) (mixed_between s.lo.x s.hi.x n m h.n_least h.m_least);
  along = rw (h.w_is, h.y_is) (mixed_between s.lo.y s.hi.y n m h.n_least h.m_least);
}

-- with one weight zero it is an end
pub low_mixed : (s : Segment) (p : Point) (n m : ℤ) → Mixed s p n m → m ≡ pos 0 → IsAt s.lo p
low_mixed s p n m h e = record {
  x = by_weight p.x (pos p.w) s.lo.x s.hi.x h.x_is h.w_is;
  y = by_weight p.y
      (pos p.w) s.lo.y s.hi.y h.y_is h.w_is;
}
  where
    by_weight : (v w a b : ℤ) → v ≡ n *ℤ a +ℤ m *ℤ b → w ≡ n +ℤ m → v ≡ a *ℤ w
    by_weight v w a b f g = f ∙ rw (g, e) (same_by (num n ⊗ num a ⊕ num (pos 0) ⊗ num b) (num a ⊗ (num n ⊕ num (pos 0))) (omega arith))

pub high_mixed : (s : Segment) (p : Point) (n m : ℤ) → Mixed s p n m → n ≡ pos 0 → IsAt s.hi p
high_mixed s p n m h e = record {
  x = by_weight p.x (pos p.w) s.lo.x s.hi.x h.x_is h.w_is;
  y = by_weight p.y
      (pos p.w) s.lo.y s.hi.y h.y_is h.w_is;
}
  where
    by_weight : (v w a b : ℤ) → v ≡ n *ℤ a +ℤ m *ℤ b → w ≡ n +ℤ m → v ≡ b *ℤ w
    by_weight v w a b f g = f ∙ rw (g, e) (same_by (num (pos 0) ⊗ num a ⊕ num m ⊗ num b) (num b ⊗ (num (pos 0) ⊕ num m)) (omega arith))

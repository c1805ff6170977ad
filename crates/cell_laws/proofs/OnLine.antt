-- Two segments of one line, by the order of their ends.
use Rattle.std.proofs.Common.{◌≡◌, ℕ, ◌<◌, ℤ, pos, ◌+ℤ◌, ◌-ℤ◌, ◌*ℤ◌, neg_ℤ, ◌≤ℤ◌, ◌<ℤ◌, arith, refl, sym, ◌⊎◌, inl, inr, ◌∙◌}
use Rattle.std.proofs.lemmas.Int.{ints}
use Rattle.plane_terms.specs.Point.{Place, Point, IsAt, point_at}
use Rattle.plane_terms.specs.Segment.{Segment, IsSegment, cross, IsBetween, OnSegment, Overlap}
use Rattle.plane_terms.specs.Share.{AreSame, TouchOnce, turn}
use Rattle.cell_laws.proofs.Meeting.{NoneShared}
use Rattle.number_laws.proofs.Ring.{num, neg, ◌⊕◌, ◌⊖◌, ◌⊗◌, same_by, le_by, le_read, same_read}
use Rattle.number_laws.proofs.Order.{product_at_least, least_unscaled, zero_unscaled, lt_scaled, scaled_le, cases_order_ℤ}
use Rattle.cell_laws.proofs.Weights.{on_mixed}

-- (x, y) comes before (u, v) in order of x, then y
abbrev pub Before : ℤ → ℤ → ℤ → ℤ → Type 0
Before x y u v = (x <ℤ u) ⊎ ((x ≡ u) × (y <ℤ v))

-- it does not come after
abbrev pub Upto : ℤ → ℤ → ℤ → ℤ → Type 0
Upto x y u v = (x <ℤ u) ⊎ ((x ≡ u) × (y ≤ℤ v))

pub upto_from_before : (x y u v : ℤ) → Before x y u v → Upto x y u v
upto_from_before x y u v (inl h) = inl h
upto_from_before x y u v (inr h) = inr (h.0, omega (arith, ints, h.1))

pub cases_before : (x y u v : ℤ) → Before x y u v ⊎ Upto u v x y
cases_before x y u v = elim (cases_order_ℤ x u) [
  | inl h ↦ inl (inl h)
  | inr h ↦ elim (cases_order_ℤ u x) [
    | inl k ↦ inr (inl k)
    | inr k ↦ elim (cases_order_ℤ y v) [ inl l ↦ inl (inr (omega (arith, ints), l)) | inr l ↦ inr (inr (omega (arith, ints), l)) ]
  ]
]

pub not_before : (x y u v : ℤ) → Before x y u v → Upto u v x y → ⊥
not_before x y u v (inl h) (inl k) = omega (arith, ints)
not_before x y u v (inl h) (inr k) = omega (arith, ints, k.0)
not_before x y u v (inr h) (inl k) = omega (arith, ints, h.0)
not_before x y u v (inr h) (inr k) = omega (arith, ints, h.1, k.1)

upto_trans : (x y u v a b : ℤ) → Upto x y u v → Upto u v a b → Upto x y a b
upto_trans x y u v a b (inl h) (inl k) = inl (omega (arith, ints))
upto_trans x y u v a b (inl h) (inr k) = inl (omega (arith, ints, k.0))
upto_trans x y u v a b (inr h) (inl k) = inl (omega (arith, ints, h.0))
upto_trans x y u v a b (inr h) (inr k) = inr (omega (arith, ints, h.0, k.0), omega (arith, ints, h.1, k.1))

pub both_upto : (x y u v : ℤ) → Upto x y u v → Upto u v x y → (x ≡ u) × (y ≡ v)
both_upto x y u v (inl h) (inl k) = absurd (omega (arith, ints))
both_upto x y u v (inl h) (inr k) = absurd (omega (arith, ints, k.0))
both_upto x y u v (inr h) (inl k) = absurd (omega (arith, ints, h.0))
both_upto x y u v (inr h) (inr k) = (h.0, omega (arith, ints, h.1, k.1))

-- scaled
before_scaled : (x y u v : ℤ) (w : ℕ) → 0 < w → Before x y u v → Before (x *ℤ pos w) (y *ℤ pos w) (u *ℤ pos w) (v *ℤ pos w)
before_scaled x y u v w p (inl h) = inl (lt_scaled x u w p h)
before_scaled x y u v w p (inr h) = inr (rw h.0 refl, lt_scaled y v w p h.1)

-- ---- the points of a segment are from lo to hi
-- where the abscissa is an end's, so is the ordinate
level : (dx dy x y : ℤ) → pos 0 <ℤ dx → dx *ℤ y -ℤ dy *ℤ x ≡ pos 0 → x ≡ pos 0 → y ≡ pos 0
level dx dy x y d e h =
    let z : dx *ℤ y -ℤ dy *ℤ pos 0 ≡ pos 0 = rw h at e in
    zero_unscaled dx y d (last (dx *ℤ y) dy z)
  where
    last : (u v : ℤ) → u -ℤ v *ℤ pos 0 ≡ pos 0 → u ≡ pos 0
    last u v e = omega (arith, ints)

-- the cross product taken from the other end
cross_high : (lx ly hx hy x y w : ℤ) → (hx -ℤ lx) *ℤ (y -ℤ hy *ℤ w) -ℤ (hy -ℤ ly) *ℤ (x -ℤ hx *ℤ w)
    ≡ (hx -ℤ lx) *ℤ (y -ℤ ly *ℤ w) -ℤ (hy -ℤ ly) *ℤ (x -ℤ lx *ℤ w)
cross_high lx ly hx hy x y w =
    let dx = num hx ⊖ num lx in
    let dy = num hy ⊖ num ly in
    same_by (dx ⊗ (num y ⊖ num hy ⊗ num w) ⊖ dy ⊗ (num x ⊖ num hx ⊗ num w))
    (dx ⊗ (num y ⊖ num ly ⊗ num w) ⊖ dy ⊗ (num x ⊖ num lx ⊗ num w)) (omega arith)

nought : (u v : ℤ) → u ≡ v → u -ℤ v ≡ pos 0
nought u v e = omega (arith, ints)

even : (u v : ℤ) → u -ℤ v ≡ pos 0 → u ≡ v
even u v e = omega (arith, ints)

between_up : (a b v : ℤ) (w : ℕ) → 0 < w → a ≤ℤ b → IsBetween (a *ℤ pos w) (b *ℤ pos w) v → ((a *ℤ pos w) ≤ℤ v) × (v ≤ℤ (b *ℤ pos w))
between_up a b v w p h (inl k) = k
between_up a b v w p h (inr k) = (omega (arith, ints, k.0, k.1, scaled_le a b w h), omega (arith, ints, k.0, k.1, scaled_le a b w h))

pub from_lo : (s : Segment) (p : Point) → IsSegment s → OnSegment s p → Upto (s.lo.x *ℤ pos p.w) (s.lo.y *ℤ pos p.w) p.x p.y
from_lo s p g o = elim g.ordered [
  | inl h ↦
      let k = between_up s.lo.x s.hi.x p.x p.w p.positive (omega (arith, ints)) o.across in
      elim (cases_order_ℤ (s.lo.x *ℤ pos p.w) p.x) [
        | inl l ↦ inl l
        | inr l ↦
            let e : s.lo.x *ℤ pos p.w ≡ p.x = omega (arith, ints, k.0) in
            let f = level (s.hi.x -ℤ s.lo.x) (s.hi.y -ℤ s.lo.y) (p.x -ℤ s.lo.x *ℤ pos p.w) (p.y -ℤ s.lo.y *ℤ pos p.w)
            (omega (arith, ints)) o.straight (nought p.x (s.lo.x *ℤ pos p.w) (sym e)) in
            inr (e, omega (arith, ints, f))
      ]
  | inr h ↦
      let k = between_up s.lo.x s.hi.x p.x p.w p.positive (omega (arith, ints, h.0)) o.across in
      let l = between_up s.lo.y s.hi.y p.y p.w p.positive (omega (arith, ints, h.1)) o.along in
      let e : s.lo.x *ℤ pos p.w ≡ p.x = at_both (s.lo.x *ℤ pos p.w) (s.hi.x *ℤ pos p.w) p.x (rw h.0 refl) k.0 k.1 in
      inr (e, l.0)
]
  where
    at_both : (u v x : ℤ) → u ≡ v → u ≤ℤ x → x ≤ℤ v → u ≡ x
    at_both u v x e h k = omega (arith, ints)

pub to_hi : (s : Segment) (p : Point) → IsSegment s → OnSegment s p → Upto p.x p.y (s.hi.x *ℤ pos p.w) (s.hi.y *ℤ pos p.w)
to_hi s p g o = elim g.ordered [
  | inl h ↦
      let k = between_up s.lo.x s.hi.x p.x p.w p.positive (omega (arith, ints)) o.across in
      elim (cases_order_ℤ p.x (s.hi.x *ℤ pos p.w)) [
        | inl l ↦ inl l
        | inr l ↦
            let e : p.x ≡ s.hi.x *ℤ pos p.w = omega (arith, ints, k.1) in
            let f = level (s.hi.x -ℤ s.lo.x) (s.hi.y -ℤ s.lo.y) (p.x -ℤ s.hi.x *ℤ pos p.w) (p.y -ℤ s.hi.y *ℤ pos p.w)
            (omega (arith, ints)) (cross_high s.lo.x s.lo.y s.hi.x s.hi.y p.x p.y (pos p.w)
            ∙ o.straight) (nought p.x (s.hi.x *ℤ pos p.w) e) in
            inr (e, omega (arith, ints, f))
      ]
  | inr h ↦
      let k = between_up s.lo.x s.hi.x p.x p.w p.positive (omega (arith, ints, h.0)) o.across in
      let l = between_up s.lo.y s.hi.y p.y p.w p.positive (omega (arith, ints, h.1)) o.along in
      let e : p.x ≡ s.hi.x *ℤ pos p.w = at_both (s.lo.x *ℤ pos p.w) (s.hi.x *ℤ pos p.w) p.x (rw h.0 refl) k.0 k.1 in
      inr (e, l.1)
]
  where
    at_both : (u v x : ℤ) → u ≡ v → u ≤ℤ x → x ≤ℤ v → x ≡ v
    at_both u v x e h k = omega (arith, ints)

-- ---- one wholly before the other
pub apart_before : (s t : Segment) → IsSegment s → IsSegment t → Before s.hi.x s.hi.y t.lo.x t.lo.y → NoneShared s t
apart_before s t g h b = record {
  never = λ p o q.
      let w = pos p.w in
      not_before (s.hi.x *ℤ w) (s.hi.y *ℤ w) (t.lo.x *ℤ w) (t.lo.y *ℤ w) (before_scaled s.hi.x s.hi.y t.lo.x t.lo.y p.w p.positive b)
      (upto_trans (t.lo.x *ℤ w) (t.lo.y *ℤ w) p.x p.y (s.hi.x *ℤ w) (s.hi.y *ℤ w) (from_lo t p h q) (to_hi s p g o));
}

-- ---- grid points on a segment
one : (v : ℤ) → v ≡ v *ℤ pos 1
one v = omega (arith, ints)

pub at_itself : (q : Place) → IsAt q (point_at q)
at_itself q = record { x = one q.x; y = one q.y }

only_low : (a b : ℤ) → a ≡ pos 1 *ℤ a +ℤ pos 0 *ℤ b
only_low a b = same_by (num a) (num (pos 1) ⊗ num a ⊕ num (pos 0) ⊗ num b) (omega arith)

only_high : (a b : ℤ) → b ≡ pos 0 *ℤ a +ℤ pos 1 *ℤ b
only_high a b = same_by (num b) (num (pos 0) ⊗ num a ⊕ num (pos 1) ⊗ num b) (omega arith)

pub on_lo : (s : Segment) → OnSegment s (point_at s.lo)
on_lo s = on_mixed s (point_at s.lo) (pos 1) (pos 0)
    (record {
      n_least = omega (arith, ints);
      m_least = omega
          (arith, ints);
      w_is = refl;
      x_is = only_low s.lo.x s.hi.x;
      y_is = only_low s.lo.y s.hi.y;
    })

pub on_hi : (s : Segment) → OnSegment s (point_at s.hi)
on_hi s = on_mixed s (point_at s.hi) (pos 0) (pos 1)
    (record {
      n_least = omega (arith, ints);
      m_least = omega
          (arith, ints);
      w_is = refl;
      x_is = only_high s.lo.x s.hi.x;
      y_is = only_high s.lo.y s.hi.y;
    })

-- on the line, and from lo to hi
pub along_up : (lx ly hx hy x y : ℤ) → lx <ℤ hx → ly ≤ℤ hy → (hx -ℤ lx) *ℤ (y -ℤ ly) -ℤ (hy -ℤ ly) *ℤ (x -ℤ lx) ≡ pos 0 → lx ≤ℤ x
    → x ≤ℤ hx → (ly ≤ℤ y) × (y ≤ℤ hy)
along_up lx ly hx hy x y d u e l r =
    let dx = num hx ⊖ num lx in
    let dy = num hy ⊖ num ly in
    let z = same_read (dx ⊗ (num y ⊖ num ly) ⊖ dy ⊗ (num x ⊖ num lx)) (num (pos 0)) e in
    let a = le_read (num (pos 0)) (dy ⊗ (num x ⊖ num lx)) (product_at_least (hy -ℤ ly) (x -ℤ lx) (omega (arith, ints))
    (omega (arith, ints))) in
    let b = le_read (num (pos 0)) (dy ⊗ (num hx ⊖ num x)) (product_at_least (hy -ℤ ly) (hx -ℤ x) (omega (arith, ints))
    (omega (arith, ints))) in
    let low = least_unscaled (hx -ℤ lx) (y -ℤ ly) (omega (arith, ints))
    (le_by (num (pos 0)) (dx ⊗ (num y ⊖ num ly)) (omega (arith, z, a))) in
    let high = least_unscaled (hx -ℤ lx) (hy -ℤ y) (omega (arith, ints))
    (le_by (num (pos 0)) (dx ⊗ (num hy ⊖ num y)) (omega (arith, z, b))) in
    (omega (arith, ints, low), omega (arith, ints, high))

-- the mirror image of a falling segment rises
pub mirrored : (lx ly hx hy x y : ℤ) → (hx -ℤ lx) *ℤ (neg_ℤ y -ℤ neg_ℤ ly) -ℤ (neg_ℤ hy -ℤ neg_ℤ ly) *ℤ (x -ℤ lx)
    ≡ neg_ℤ ((hx -ℤ lx) *ℤ (y -ℤ ly) -ℤ (hy -ℤ ly) *ℤ (x -ℤ lx))
mirrored lx ly hx hy x y =
    let dx = num hx ⊖ num lx in
    same_by (dx ⊗ (neg (num y) ⊖ neg (num ly)) ⊖ (neg (num hy) ⊖ neg (num ly)) ⊗ (num x ⊖ num lx))
    (neg (dx ⊗ (num y ⊖ num ly) ⊖ (num hy ⊖ num ly) ⊗ (num x ⊖ num lx))) (omega arith)

pub on_from_order : (t : Segment) (q : Place) → IsSegment t → turn t q ≡ pos 0 → Upto t.lo.x t.lo.y q.x q.y → Upto q.x q.y t.hi.x t.hi.y
    → OnSegment t (point_at q)
on_from_order t q g e l r = elim g.ordered [
  | inl h ↦ record { straight = scaled; across = inl (unit_le t.lo.x q.x (x_low l), le_unit q.x t.hi.x (x_high r)); along = ordinates h }
  | inr h ↦ record {
    straight = scaled;
    across = inl (unit_le t.lo.x q.x (x_low l), le_unit q.x t.hi.x (x_high r));
    along = inl
        (unit_le t.lo.y q.y (y_low h), le_unit q.y t.hi.y (y_high h));
  }
]
  where
    scaled : cross t (point_at q) ≡ pos 0
    scaled = rw (← one t.lo.x, ← one t.lo.y) e

    unit_le : (a b : ℤ) → a ≤ℤ b → (a *ℤ pos 1) ≤ℤ b
    unit_le a b h = omega (arith, ints)

    le_unit : (a b : ℤ) → a ≤ℤ b → a ≤ℤ (b *ℤ pos 1)
    le_unit a b h = omega (arith, ints)

    x_low : Upto t.lo.x t.lo.y q.x q.y → t.lo.x ≤ℤ q.x
    x_low (inl h) = omega (arith, ints)
    x_low (inr h) = omega (arith, ints, h.0)

    x_high : Upto q.x q.y t.hi.x t.hi.y → q.x ≤ℤ t.hi.x
    x_high (inl h) = omega (arith, ints)
    x_high (inr h) = omega (arith, ints, h.0)

    y_low : (t.lo.x ≡ t.hi.x) × (t.lo.y <ℤ t.hi.y) → t.lo.y ≤ℤ q.y
    y_low h = elim l [ inl k ↦ absurd (omega (arith, ints, h.0, k, x_high r)) | inr k ↦ k.1 ]

    y_high : (t.lo.x ≡ t.hi.x) × (t.lo.y <ℤ t.hi.y) → q.y ≤ℤ t.hi.y
    y_high h = elim r [ inl k ↦ absurd (omega (arith, ints, h.0, k, x_low l)) | inr k ↦ k.1 ]

    ordinates : t.lo.x <ℤ t.hi.x → IsBetween (t.lo.y *ℤ pos 1) (t.hi.y *ℤ pos 1) q.y
    ordinates h = elim (cases_order_ℤ t.hi.y t.lo.y) [
      | inl k ↦
          let m = along_up t.lo.x (neg_ℤ t.lo.y) t.hi.x (neg_ℤ t.hi.y) q.x (neg_ℤ q.y) h (omega (arith, ints))
          (mirrored t.lo.x t.lo.y t.hi.x t.hi.y q.x q.y ∙ rw e refl) (x_low l) (x_high r) in
          inr (omega (arith, ints, m.1), omega (arith, ints, m.0))
      | inr k ↦
          let m = along_up t.lo.x t.lo.y t.hi.x t.hi.y q.x q.y h k e (x_low l) (x_high r) in
          inl (omega (arith, ints, m.0), omega (arith, ints, m.1))
    ]

-- ---- one ends where the other begins
pub touch_at : (s t : Segment) → IsSegment s → IsSegment t → s.hi.x ≡ t.lo.x → s.hi.y ≡ t.lo.y → TouchOnce s t
touch_at s t g h e f =
    let p = point_at s.hi in
    let on_t : OnSegment t p = rw (e, f) (on_lo t) in
    record {
      meet = record {
        at = p;
        first = on_hi s;
        second = on_t;
        only = λ q o r.
            let w = pos q.w in
            let up = to_hi s q g o in
            let down : Upto (s.hi.x *ℤ w) (s.hi.y *ℤ w) q.x q.y = rw (e, f) (from_lo t q h r) in
            let k = both_upto q.x q.y (s.hi.x *ℤ w) (s.hi.y *ℤ w) up down in
            (omega (arith, ints, k.0), omega (arith, ints, k.1));
      };
      end = inl (inr (at_itself s.hi));
    }

-- ---- each begins before the other ends
differ_by : (a b : Place) → Before a.x a.y b.x b.y → ¬ (AreSame (point_at a) (point_at b))
differ_by a b (inl h) = λ e. omega (arith, ints, e.0)
differ_by a b (inr h) = λ e. omega (arith, ints, h.1, e.1)

overlap_by : (s t : Segment) (a b : Place) → OnSegment s (point_at a) → OnSegment t (point_at a) → OnSegment s (point_at b)
    → OnSegment t (point_at b) → Before a.x a.y b.x b.y → Overlap s t
overlap_by s t a b i j k l h = record {
  p = point_at a;
  q = point_at b;
  apart = differ_by a b h;
  p_on_s = i;
  p_on_t = j;
  q_on_s = k;
  q_on_t = l;
}

pub record OnOneLine (s t : Segment) : Type 0 where
  pub a : turn t s.lo ≡ pos 0
  pub b : turn t s.hi ≡ pos 0
  pub c : turn s t.lo ≡ pos 0
  pub d : turn s t.hi ≡ pos 0

pub overlap : (s t : Segment) → IsSegment s → IsSegment t → OnOneLine s t → Before t.lo.x t.lo.y s.hi.x s.hi.y
    → Before s.lo.x s.lo.y t.hi.x t.hi.y → Overlap s t
overlap s t g h z ts st =
    let s_up = upto_from_before t.lo.x t.lo.y s.hi.x s.hi.y ts in
    let t_up = upto_from_before s.lo.x s.lo.y t.hi.x t.hi.y st in
    elim (cases_before t.lo.x t.lo.y s.lo.x s.lo.y) [
      | inl k ↦
          let on_t = on_from_order t s.lo h z.a (upto_from_before t.lo.x t.lo.y s.lo.x s.lo.y k) t_up in
          elim (cases_before s.hi.x s.hi.y t.hi.x t.hi.y) [
            | inl l ↦ overlap_by s t s.lo s.hi (on_lo s) on_t (on_hi s)
                (on_from_order t s.hi h z.b s_up (upto_from_before s.hi.x s.hi.y t.hi.x t.hi.y l)) g.ordered
            | inr l ↦ overlap_by s t s.lo t.hi (on_lo s) on_t (on_from_order s t.hi g z.d t_up l) (on_hi t) st
          ]
      | inr k ↦
          let on_s = on_from_order s t.lo g z.c k s_up in
          elim (cases_before s.hi.x s.hi.y t.hi.x t.hi.y) [
            | inl l ↦ overlap_by s t t.lo s.hi on_s (on_lo t) (on_hi s)
                (on_from_order t s.hi h z.b s_up (upto_from_before s.hi.x s.hi.y t.hi.x t.hi.y l)) ts
            | inr l ↦ overlap_by s t t.lo t.hi on_s (on_lo t) (on_from_order s t.hi g z.d t_up l) (on_hi t) h.ordered
          ]
    ]

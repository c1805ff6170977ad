-- Two segments whose lines are not parallel: at most one common point, and the one where each has its ends on both sides of the other.
use Rattle.std.proofs.Common.{◌≡◌, ℤ, pos, ◌+ℤ◌, ◌-ℤ◌, ◌*ℤ◌, neg_ℤ, ◌≤ℤ◌, ◌<ℤ◌, arith, refl, sym, ◌⊎◌, inl, inr, ◌∙◌}
use Rattle.std.proofs.lemmas.Int.{ints}
use Rattle.plane_terms.specs.Point.{Place, Point, IsAt}
use Rattle.plane_terms.specs.Segment.{Segment, IsSegment, cross, OnSegment, Overlap}
use Rattle.plane_terms.specs.Share.{AreSame, MeetOnce, CrossOnce, TouchOnce, turn}
use Rattle.number_laws.proofs.Ring.{num, neg, ◌⊕◌, ◌⊖◌, ◌⊗◌, same_by, lt_by, le_read, lt_read}
use Rattle.number_laws.proofs.Order.{turned_at_least, product_at_least, product_over, zero_unscaled, natural}
use Rattle.cell_laws.proofs.Weights.{Weights, weights, Mixed, on_mixed, low_mixed, high_mixed}

-- no point is on both
pub record NoneShared (s t : Segment) : Type 0 where
  pub never : (p : Point) → OnSegment s p → OnSegment t p → ⊥

-- ---- the turns of a segment's ends decide the side of its points
spread : (lx ly hx hy x y w k : ℤ) → k *ℤ ((hx -ℤ lx) *ℤ (y -ℤ ly *ℤ w) -ℤ (hy -ℤ ly) *ℤ (x -ℤ lx *ℤ w))
    ≡ (hx -ℤ lx) *ℤ (k *ℤ y -ℤ ly *ℤ (k *ℤ w)) -ℤ (hy -ℤ ly) *ℤ (k *ℤ x -ℤ lx *ℤ (k *ℤ w))
spread lx ly hx hy x y w k =
    let dx = num hx ⊖ num lx in
    let dy = num hy ⊖ num ly in
    same_by (num k ⊗ (dx ⊗ (num y ⊖ num ly ⊗ num w) ⊖ dy ⊗ (num x ⊖ num lx ⊗ num w)))
    (dx ⊗ (num k ⊗ num y ⊖ num ly ⊗ (num k ⊗ num w)) ⊖ dy ⊗ (num k ⊗ num x ⊖ num lx ⊗ (num k ⊗ num w))) (omega arith)

gather : (lx ly hx hy ax ay bx by n m : ℤ)
    → (hx -ℤ lx) *ℤ ((n *ℤ ay +ℤ m *ℤ by) -ℤ ly *ℤ (n +ℤ m)) -ℤ (hy -ℤ ly) *ℤ ((n *ℤ ax +ℤ m *ℤ bx) -ℤ lx *ℤ (n +ℤ m))
    ≡ n *ℤ ((hx -ℤ lx) *ℤ (ay -ℤ ly) -ℤ (hy -ℤ ly) *ℤ (ax -ℤ lx)) +ℤ m *ℤ ((hx -ℤ lx) *ℤ (by -ℤ ly) -ℤ (hy -ℤ ly) *ℤ (bx -ℤ lx))
gather lx ly hx hy ax ay bx by n m =
    let dx = num hx ⊖ num lx in
    let dy = num hy ⊖ num ly in
    same_by (dx ⊗ ((num n ⊗ num ay ⊕ num m ⊗ num by) ⊖ num ly ⊗ (num n ⊕ num m)) ⊖ dy ⊗
    ((num n ⊗ num ax ⊕ num m ⊗ num bx) ⊖ num lx ⊗ (num n ⊕ num m)))
    (num n ⊗ (dx ⊗ (num ay ⊖ num ly) ⊖ dy ⊗ (num ax ⊖ num lx)) ⊕ num m ⊗ (dx ⊗ (num by ⊖ num ly) ⊖ dy ⊗ (num bx ⊖ num lx))) (omega arith)

pub weighted_cross : (t s : Segment) (p : Point) (w : Weights s p) → w.k *ℤ cross t p ≡ w.n *ℤ turn t s.lo +ℤ w.m *ℤ turn t s.hi
weighted_cross t s p w =
    spread t.lo.x t.lo.y t.hi.x t.hi.y p.x p.y (pos p.w) w.k
    ∙ rw (w.w_is, w.x_is, w.y_is) (gather t.lo.x t.lo.y t.hi.x t.hi.y s.lo.x s.lo.y s.hi.x s.hi.y w.n w.m)

-- weights of two numbers above zero give a number above zero
sum_over : (n m a b : ℤ) → pos 0 ≤ℤ n → pos 0 ≤ℤ m → pos 0 <ℤ (n +ℤ m) → pos 0 <ℤ a → pos 0 <ℤ b → pos 0 <ℤ (n *ℤ a +ℤ m *ℤ b)
sum_over n m a b h k l f g =
    let x = le_read (num (pos 0)) (num n ⊗ (num a ⊖ num (pos 1))) (product_at_least n (a -ℤ pos 1) h (omega (arith, ints))) in
    let y = le_read (num (pos 0)) (num m ⊗ (num b ⊖ num (pos 1))) (product_at_least m (b -ℤ pos 1) k (omega (arith, ints))) in
    let z = lt_read (num (pos 0)) (num n ⊕ num m) l in
    lt_by (num (pos 0)) (num n ⊗ num a ⊕ num m ⊗ num b) (omega (arith, x, y, z))

sum_under : (n m a b : ℤ) → pos 0 ≤ℤ n → pos 0 ≤ℤ m → pos 0 <ℤ (n +ℤ m) → a <ℤ pos 0 → b <ℤ pos 0 → (n *ℤ a +ℤ m *ℤ b) <ℤ pos 0
sum_under n m a b h k l f g =
    let x = le_read (num (pos 0)) (num n ⊗ (num (neg_ℤ (pos 1)) ⊖ num a))
    (product_at_least n (neg_ℤ (pos 1) -ℤ a) h (omega (arith, ints))) in
    let y = le_read (num (pos 0)) (num m ⊗ (num (neg_ℤ (pos 1)) ⊖ num b))
    (product_at_least m (neg_ℤ (pos 1) -ℤ b) k (omega (arith, ints))) in
    let z = lt_read (num (pos 0)) (num n ⊕ num m) l in
    lt_by (num n ⊗ num a ⊕ num m ⊗ num b) (num (pos 0)) (omega (arith, x, y, z))

weight_over : {s : Segment} {p : Point} (w : Weights s p) → pos 0 <ℤ (w.n +ℤ w.m)
weight_over {s} {p} w = rw (← w.w_is) (product_over w.k (pos p.w) w.k_over (omega (arith, ints, p.positive)))

pub times_zero : (k z : ℤ) → z ≡ pos 0 → k *ℤ z ≡ pos 0
times_zero k z h = rw h (omega (arith, ints))

not_over : (u v : ℤ) → u ≡ pos 0 → u ≡ v → pos 0 <ℤ v → ⊥
not_over u v e f h = omega (arith, ints)

not_under : (u v : ℤ) → u ≡ pos 0 → u ≡ v → v <ℤ pos 0 → ⊥
not_under u v e f h = omega (arith, ints)

pub apart_over : (s t : Segment) → IsSegment s → pos 0 <ℤ turn t s.lo → pos 0 <ℤ turn t s.hi → NoneShared s t
apart_over s t g h k = record {
  never = λ p o q.
      let w = weights s p g o in
      not_over (w.k *ℤ cross t p) _ (times_zero w.k (cross t p) q.straight) (weighted_cross t s p w)
      (sum_over w.n w.m (turn t s.lo) (turn t s.hi) w.n_least w.m_least (weight_over w) h k);
}

pub apart_under : (s t : Segment) → IsSegment s → turn t s.lo <ℤ pos 0 → turn t s.hi <ℤ pos 0 → NoneShared s t
apart_under s t g h k = record {
  never = λ p o q.
      let w = weights s p g o in
      not_under (w.k *ℤ cross t p) _ (times_zero w.k (cross t p) q.straight) (weighted_cross t s p w)
      (sum_under w.n w.m (turn t s.lo) (turn t s.hi) w.n_least w.m_least (weight_over w) h k);
}

pub apart_sym : (s t : Segment) → NoneShared t s → NoneShared s t
apart_sym s t a = record { never = λ p o q. a.never p q o }

-- ---- the two differences of turns are one number
pub turns_differ : (s t : Segment) → turn t s.lo -ℤ turn t s.hi ≡ turn s t.hi -ℤ turn s t.lo
turns_differ s t =
    let sx = num s.hi.x ⊖ num s.lo.x in
    let sy = num s.hi.y ⊖ num s.lo.y in
    let tx = num t.hi.x ⊖ num t.lo.x in
    let ty = num t.hi.y ⊖ num t.lo.y in
    same_by ((tx ⊗ (num s.lo.y ⊖ num t.lo.y) ⊖ ty ⊗ (num s.lo.x ⊖ num t.lo.x)) ⊖
    (tx ⊗ (num s.hi.y ⊖ num t.lo.y) ⊖ ty ⊗ (num s.hi.x ⊖ num t.lo.x)))
    ((sx ⊗ (num t.hi.y ⊖ num s.lo.y) ⊖ sy ⊗ (num t.hi.x ⊖ num s.lo.x)) ⊖
    (sx ⊗ (num t.lo.y ⊖ num s.lo.y) ⊖ sy ⊗ (num t.lo.x ⊖ num s.lo.x))) (omega arith)

pub slopes_differ : (s t : Segment) → (s.hi.x -ℤ s.lo.x) *ℤ (t.hi.y -ℤ t.lo.y) -ℤ (s.hi.y -ℤ s.lo.y) *ℤ (t.hi.x -ℤ t.lo.x)
    ≡ turn t s.lo -ℤ turn t s.hi
slopes_differ s t =
    let sx = num s.hi.x ⊖ num s.lo.x in
    let sy = num s.hi.y ⊖ num s.lo.y in
    let tx = num t.hi.x ⊖ num t.lo.x in
    let ty = num t.hi.y ⊖ num t.lo.y in
    same_by (sx ⊗ ty ⊖ sy ⊗ tx) ((tx ⊗ (num s.lo.y ⊖ num t.lo.y) ⊖ ty ⊗ (num s.lo.x ⊖ num t.lo.x)) ⊖
    (tx ⊗ (num s.hi.y ⊖ num t.lo.y) ⊖ ty ⊗ (num s.hi.x ⊖ num t.lo.x))) (omega arith)

-- ---- at most one common point
-- of two lines with forms A and B, the weighted difference leaves one unknown
one_left : (a1 b1 c1 a2 b2 c2 px py pw qx qy qw : ℤ) → (a1 *ℤ b2 -ℤ b1 *ℤ a2) *ℤ (px *ℤ qw -ℤ qx *ℤ pw)
    ≡ qw *ℤ (b2 *ℤ (a1 *ℤ px +ℤ b1 *ℤ py +ℤ c1 *ℤ pw) -ℤ b1 *ℤ (a2 *ℤ px +ℤ b2 *ℤ py +ℤ c2 *ℤ pw)) -ℤ pw *ℤ
    (b2 *ℤ (a1 *ℤ qx +ℤ b1 *ℤ qy +ℤ c1 *ℤ qw) -ℤ b1 *ℤ (a2 *ℤ qx +ℤ b2 *ℤ qy +ℤ c2 *ℤ qw))
one_left a1 b1 c1 a2 b2 c2 px py pw qx qy qw =
    same_by ((num a1 ⊗ num b2 ⊖ num b1 ⊗ num a2) ⊗ (num px ⊗ num qw ⊖ num qx ⊗ num pw))
    (num qw ⊗ (num b2 ⊗ (num a1 ⊗ num px ⊕ num b1 ⊗ num py ⊕ num c1 ⊗ num pw) ⊖ num b1 ⊗
    (num a2 ⊗ num px ⊕ num b2 ⊗ num py ⊕ num c2 ⊗ num pw)) ⊖ num pw ⊗
    (num b2 ⊗ (num a1 ⊗ num qx ⊕ num b1 ⊗ num qy ⊕ num c1 ⊗ num qw) ⊖ num b1 ⊗ (num a2 ⊗ num qx ⊕ num b2 ⊗ num qy ⊕ num c2 ⊗ num qw)))
    (omega arith)

same_place : (a1 b1 c1 a2 b2 c2 px py pw qx qy qw : ℤ) → pos 0 <ℤ (a1 *ℤ b2 -ℤ b1 *ℤ a2) → a1 *ℤ px +ℤ b1 *ℤ py +ℤ c1 *ℤ pw ≡ pos 0
    → a2 *ℤ px +ℤ b2 *ℤ py +ℤ c2 *ℤ pw ≡ pos 0 → a1 *ℤ qx +ℤ b1 *ℤ qy +ℤ c1 *ℤ qw ≡ pos 0 → a2 *ℤ qx +ℤ b2 *ℤ qy +ℤ c2 *ℤ qw ≡ pos 0
    → px *ℤ qw ≡ qx *ℤ pw
same_place a1 b1 c1 a2 b2 c2 px py pw qx qy qw d e f g h =
    let z : (a1 *ℤ b2 -ℤ b1 *ℤ a2) *ℤ (px *ℤ qw -ℤ qx *ℤ pw) ≡ pos 0 = one_left a1 b1 c1 a2 b2 c2 px py pw qx qy qw
    ∙ rw (e, f, g, h) (nought qw pw b1 b2) in
    equal (px *ℤ qw) (qx *ℤ pw) (zero_unscaled (a1 *ℤ b2 -ℤ b1 *ℤ a2) (px *ℤ qw -ℤ qx *ℤ pw) d z)
  where
    nought : (u v b c : ℤ) → u *ℤ (c *ℤ pos 0 -ℤ b *ℤ pos 0) -ℤ v *ℤ (c *ℤ pos 0 -ℤ b *ℤ pos 0) ≡ pos 0
    nought u v b c = same_by (num u ⊗ (num c ⊗ num (pos 0) ⊖ num b ⊗ num (pos 0)) ⊖ num v ⊗ (num c ⊗ num (pos 0) ⊖ num b ⊗ num (pos 0)))
        (num (pos 0)) (omega arith)

    equal : (u v : ℤ) → u -ℤ v ≡ pos 0 → u ≡ v
    equal u v h = omega (arith, ints)

-- the cross product as a form of x, y and w, and of y, x and w
pub form_xy : (lx ly hx hy x y w : ℤ) → neg_ℤ (hy -ℤ ly) *ℤ x +ℤ (hx -ℤ lx) *ℤ y +ℤ ((hy -ℤ ly) *ℤ lx -ℤ (hx -ℤ lx) *ℤ ly) *ℤ w
    ≡ (hx -ℤ lx) *ℤ (y -ℤ ly *ℤ w) -ℤ (hy -ℤ ly) *ℤ (x -ℤ lx *ℤ w)
form_xy lx ly hx hy x y w =
    let dx = num hx ⊖ num lx in
    let dy = num hy ⊖ num ly in
    same_by (neg dy ⊗ num x ⊕ dx ⊗ num y ⊕ (dy ⊗ num lx ⊖ dx ⊗ num ly) ⊗ num w)
    (dx ⊗ (num y ⊖ num ly ⊗ num w) ⊖ dy ⊗ (num x ⊖ num lx ⊗ num w)) (omega arith)

form_yx : (lx ly hx hy x y w : ℤ) → (hx -ℤ lx) *ℤ y +ℤ neg_ℤ (hy -ℤ ly) *ℤ x +ℤ ((hy -ℤ ly) *ℤ lx -ℤ (hx -ℤ lx) *ℤ ly) *ℤ w
    ≡ (hx -ℤ lx) *ℤ (y -ℤ ly *ℤ w) -ℤ (hy -ℤ ly) *ℤ (x -ℤ lx *ℤ w)
form_yx lx ly hx hy x y w =
    let dx = num hx ⊖ num lx in
    let dy = num hy ⊖ num ly in
    same_by (dx ⊗ num y ⊕ neg dy ⊗ num x ⊕ (dy ⊗ num lx ⊖ dx ⊗ num ly) ⊗ num w)
    (dx ⊗ (num y ⊖ num ly ⊗ num w) ⊖ dy ⊗ (num x ⊖ num lx ⊗ num w)) (omega arith)

pub one_point : (s t : Segment) (p q : Point) → turn t s.hi <ℤ turn t s.lo → OnSegment s p → OnSegment t p → OnSegment s q → OnSegment t q
    → AreSame p q
one_point s t p q d sp tp sq tq =
    let sx = s.hi.x -ℤ s.lo.x in
    let sy = s.hi.y -ℤ s.lo.y in
    let tx = t.hi.x -ℤ t.lo.x in
    let ty = t.hi.y -ℤ t.lo.y in
    let sc = sy *ℤ s.lo.x -ℤ sx *ℤ s.lo.y in
    let tc = ty *ℤ t.lo.x -ℤ tx *ℤ t.lo.y in
    let e = slopes_differ s t in (
      apart (p.x *ℤ pos q.w) (q.x *ℤ pos p.w) (same_place (neg_ℤ sy) sx sc (neg_ℤ ty) tx tc p.x p.y (pos p.w) q.x q.y (pos q.w)
          (first sx sy tx ty (turn t s.lo) (turn t s.hi) e d)
          (form_xy s.lo.x s.lo.y s.hi.x s.hi.y p.x p.y (pos p.w) ∙ sp.straight) (form_xy t.lo.x t.lo.y t.hi.x t.hi.y p.x p.y (pos p.w)
          ∙ tp.straight) (form_xy s.lo.x s.lo.y s.hi.x s.hi.y q.x q.y (pos q.w)
          ∙ sq.straight) (form_xy t.lo.x t.lo.y t.hi.x t.hi.y q.x q.y (pos q.w) ∙ tq.straight)),
      apart (p.y *ℤ pos q.w) (q.y *ℤ pos p.w) (same_place tx (neg_ℤ ty) tc sx (neg_ℤ sy) sc p.y p.x (pos p.w) q.y q.x (pos q.w)
          (second sx sy tx ty (turn t s.lo) (turn t s.hi) e d)
          (form_yx t.lo.x t.lo.y t.hi.x t.hi.y p.x p.y (pos p.w) ∙ tp.straight) (form_yx s.lo.x s.lo.y s.hi.x s.hi.y p.x p.y (pos p.w)
          ∙ sp.straight) (form_yx t.lo.x t.lo.y t.hi.x t.hi.y q.x q.y (pos q.w)
          ∙ tq.straight) (form_yx s.lo.x s.lo.y s.hi.x s.hi.y q.x q.y (pos q.w) ∙ sq.straight)),
    )
  where
    apart : (u v : ℤ) → u ≡ v → v -ℤ u ≡ pos 0
    apart u v e = omega (arith, ints)

    above : (u v a b : ℤ) → u ≡ v → v ≡ a -ℤ b → b <ℤ a → pos 0 <ℤ u
    above u v a b e f h = omega (arith, ints)

    first : (sx sy tx ty a b : ℤ) → sx *ℤ ty -ℤ sy *ℤ tx ≡ a -ℤ b → b <ℤ a → pos 0 <ℤ (neg_ℤ sy *ℤ tx -ℤ sx *ℤ neg_ℤ ty)
    first sx sy tx ty a b e h =
        above (neg_ℤ sy *ℤ tx -ℤ sx *ℤ neg_ℤ ty) (sx *ℤ ty -ℤ sy *ℤ tx) a b (same_by (neg (num sy) ⊗ num tx ⊖ num sx ⊗ neg (num ty))
        (num sx ⊗ num ty ⊖ num sy ⊗ num tx) (omega arith)) e h

    second : (sx sy tx ty a b : ℤ) → sx *ℤ ty -ℤ sy *ℤ tx ≡ a -ℤ b → b <ℤ a → pos 0 <ℤ (tx *ℤ neg_ℤ sy -ℤ neg_ℤ ty *ℤ sx)
    second sx sy tx ty a b e h =
        above (tx *ℤ neg_ℤ sy -ℤ neg_ℤ ty *ℤ sx) (sx *ℤ ty -ℤ sy *ℤ tx) a b (same_by (num tx ⊗ neg (num sy) ⊖ neg (num ty) ⊗ num sx)
        (num sx ⊗ num ty ⊖ num sy ⊗ num tx) (omega arith)) e h

-- ---- the common point, with the turns as weights
-- of coordinates u of one segment and v of the other, with the slopes of both
meet_x : (slx sly shx shy tlx tly thx thy : ℤ)
    → neg_ℤ ((thx -ℤ tlx) *ℤ (shy -ℤ tly) -ℤ (thy -ℤ tly) *ℤ (shx -ℤ tlx)) *ℤ slx +ℤ
    ((thx -ℤ tlx) *ℤ (sly -ℤ tly) -ℤ (thy -ℤ tly) *ℤ (slx -ℤ tlx)) *ℤ shx
    ≡ ((shx -ℤ slx) *ℤ (thy -ℤ sly) -ℤ (shy -ℤ sly) *ℤ (thx -ℤ slx)) *ℤ tlx +ℤ neg_ℤ
    ((shx -ℤ slx) *ℤ (tly -ℤ sly) -ℤ (shy -ℤ sly) *ℤ (tlx -ℤ slx)) *ℤ thx
meet_x slx sly shx shy tlx tly thx thy =
    let sx = num shx ⊖ num slx in
    let sy = num shy ⊖ num sly in
    let tx = num thx ⊖ num tlx in
    let ty = num thy ⊖ num tly in
    same_by (neg (tx ⊗ (num shy ⊖ num tly) ⊖ ty ⊗ (num shx ⊖ num tlx)) ⊗ num slx ⊕
    (tx ⊗ (num sly ⊖ num tly) ⊖ ty ⊗ (num slx ⊖ num tlx)) ⊗ num shx)
    ((sx ⊗ (num thy ⊖ num sly) ⊖ sy ⊗ (num thx ⊖ num slx)) ⊗ num tlx ⊕ neg
    (sx ⊗ (num tly ⊖ num sly) ⊖ sy ⊗ (num tlx ⊖ num slx)) ⊗ num thx) (omega arith)

meet_y : (slx sly shx shy tlx tly thx thy : ℤ)
    → neg_ℤ ((thx -ℤ tlx) *ℤ (shy -ℤ tly) -ℤ (thy -ℤ tly) *ℤ (shx -ℤ tlx)) *ℤ sly +ℤ
    ((thx -ℤ tlx) *ℤ (sly -ℤ tly) -ℤ (thy -ℤ tly) *ℤ (slx -ℤ tlx)) *ℤ shy
    ≡ ((shx -ℤ slx) *ℤ (thy -ℤ sly) -ℤ (shy -ℤ sly) *ℤ (thx -ℤ slx)) *ℤ tly +ℤ neg_ℤ
    ((shx -ℤ slx) *ℤ (tly -ℤ sly) -ℤ (shy -ℤ sly) *ℤ (tlx -ℤ slx)) *ℤ thy
meet_y slx sly shx shy tlx tly thx thy =
    let sx = num shx ⊖ num slx in
    let sy = num shy ⊖ num sly in
    let tx = num thx ⊖ num tlx in
    let ty = num thy ⊖ num tly in
    same_by (neg (tx ⊗ (num shy ⊖ num tly) ⊖ ty ⊗ (num shx ⊖ num tlx)) ⊗ num sly ⊕
    (tx ⊗ (num sly ⊖ num tly) ⊖ ty ⊗ (num slx ⊖ num tlx)) ⊗ num shy)
    ((sx ⊗ (num thy ⊖ num sly) ⊖ sy ⊗ (num thx ⊖ num slx)) ⊗ num tly ⊕ neg
    (sx ⊗ (num tly ⊖ num sly) ⊖ sy ⊗ (num tlx ⊖ num slx)) ⊗ num thy) (omega arith)

-- the first segment goes from left of the second to right of it, and the second from right of the first to left
pub record Straddle (s t : Segment) : Type 0 where
  pub from : pos 0 ≤ℤ turn t s.lo
  pub to : turn t s.hi ≤ℤ pos 0
  pub turns : turn t s.hi <ℤ turn t s.lo
  pub other_from : turn s t.lo ≤ℤ pos 0
  pub other_to : pos 0 ≤ℤ turn s t.hi

pub record Meeting (s t : Segment) : Type 0 where
  pub at : Point
  pub first : Mixed s at (neg_ℤ (turn t s.hi)) (turn t s.lo)
  pub second : Mixed t at (turn s t.hi) (neg_ℤ (turn s t.lo))

pub meeting : (s t : Segment) → Straddle s t → Meeting s t
meeting s t h =
    let a = turn t s.lo in
    let b = turn t s.hi in
    let c = turn s t.lo in
    let d = turn s t.hi in
    let w = natural (a -ℤ b) (over a b h.turns) in
    record {
      at = record { x = neg_ℤ b *ℤ s.lo.x +ℤ a *ℤ s.hi.x; y = neg_ℤ b *ℤ s.lo.y +ℤ a *ℤ s.hi.y; w = w.0; positive = w.1 };
      first = record { n_least = turned_at_least b h.to; m_least = h.from; w_is = sum a b (pos w.0) w.2; x_is = refl; y_is = refl };
      second = record {
        n_least = h.other_to;
        m_least = turned_at_least c h.other_from;
        w_is = other a b c d (pos w.0) w.2 (turns_differ s t);
        x_is = meet_x s.lo.x s.lo.y s.hi.x s.hi.y t.lo.x t.lo.y t.hi.x t.hi.y;
        y_is = meet_y s.lo.x s.lo.y s.hi.x s.hi.y t.lo.x t.lo.y t.hi.x t.hi.y;
      };
    }
  where
    over : (a b : ℤ) → b <ℤ a → pos 0 <ℤ (a -ℤ b)
    over a b h = omega (arith, ints)

    sum : (a b w : ℤ) → a -ℤ b ≡ w → w ≡ neg_ℤ b +ℤ a
    sum a b w e = omega (arith, ints)

    other : (a b c d w : ℤ) → a -ℤ b ≡ w → a -ℤ b ≡ d -ℤ c → w ≡ d +ℤ neg_ℤ c
    other a b c d w e f = omega (arith, ints)

-- ---- an end of one on the other
pub at_turn : (lx ly hx hy x y w : ℤ) → (hx -ℤ lx) *ℤ (y *ℤ w -ℤ ly *ℤ w) -ℤ (hy -ℤ ly) *ℤ (x *ℤ w -ℤ lx *ℤ w)
    ≡ w *ℤ ((hx -ℤ lx) *ℤ (y -ℤ ly) -ℤ (hy -ℤ ly) *ℤ (x -ℤ lx))
at_turn lx ly hx hy x y w =
    let dx = num hx ⊖ num lx in
    let dy = num hy ⊖ num ly in
    same_by (dx ⊗ (num y ⊗ num w ⊖ num ly ⊗ num w) ⊖ dy ⊗ (num x ⊗ num w ⊖ num lx ⊗ num w))
    (num w ⊗ (dx ⊗ (num y ⊖ num ly) ⊖ dy ⊗ (num x ⊖ num lx))) (omega arith)

pub turn_zero : (t : Segment) (q : Place) (p : Point) → IsAt q p → OnSegment t p → turn t q ≡ pos 0
turn_zero t q p a o =
    let e : (t.hi.x -ℤ t.lo.x) *ℤ (q.y *ℤ pos p.w -ℤ t.lo.y *ℤ pos p.w) -ℤ (t.hi.y -ℤ t.lo.y) *ℤ (q.x *ℤ pos p.w -ℤ t.lo.x *ℤ pos p.w)
    ≡ pos 0 = rw (← a.x, ← a.y) o.straight in
    zero_unscaled (pos p.w) (turn t q) (omega (arith, ints, p.positive)) (sym (at_turn t.lo.x t.lo.y t.hi.x t.hi.y q.x q.y (pos p.w)) ∙ e)

-- ---- exactly one common point
pub meet_once : (s t : Segment) → Straddle s t → (m : Meeting s t) → MeetOnce s t
meet_once s t h m =
    let o = on_mixed s m.at _ _ m.first in
    let q = on_mixed t m.at _ _ m.second in
    record { at = m.at; first = o; second = q; only = λ r x y. one_point s t m.at r h.turns o q x y }

pub record NoEnds (s t : Segment) : Type 0 where
  pub a : ¬ (turn t s.lo ≡ pos 0)
  pub b : ¬ (turn t s.hi ≡ pos 0)
  pub c : ¬ (turn s t.lo ≡ pos 0)
  pub d : ¬ (turn s t.hi ≡ pos 0)

pub cross_once : (s t : Segment) → Straddle s t → NoEnds s t → CrossOnce s t
cross_once s t h n =
    let m = meet_once s t h (meeting s t h) in
    record {
      meet = m;
      inner = λ e. elim e [
        | inl f ↦ elim f [ inl g ↦ n.a (turn_zero t s.lo m.at g m.second) | inr g ↦ n.b (turn_zero t s.hi m.at g m.second) ]
        | inr f ↦ elim f [ inl g ↦ n.c (turn_zero s t.lo m.at g m.first) | inr g ↦ n.d (turn_zero s t.hi m.at g m.first) ]
      ];
    }

abbrev pub SomeEnd : Segment → Segment → Type 0
SomeEnd s t = ((turn t s.lo ≡ pos 0) ⊎ (turn t s.hi ≡ pos 0)) ⊎ ((turn s t.lo ≡ pos 0) ⊎ (turn s t.hi ≡ pos 0))

pub touch_once : (s t : Segment) → Straddle s t → SomeEnd s t → TouchOnce s t
unfolding meet_once
touch_once s t h e =
    let k = meeting s t h in
    record {
      meet = meet_once s t h k;
      end = elim e [
        | inl f ↦ inl (elim f [ inl z ↦ inl (low_mixed s k.at _ _ k.first z) | inr z ↦ inr (high_mixed s k.at _ _ k.first (turned z)) ])
        | inr f ↦ inr (elim f [ inl z ↦ inl (low_mixed t k.at _ _ k.second (turned z)) | inr z ↦ inr (high_mixed t k.at _ _ k.second z) ])
      ];
    }
  where
    turned : {v : ℤ} → v ≡ pos 0 → neg_ℤ v ≡ pos 0
    turned {v} h = omega (arith, ints)

-- ---- the other way round
pub meet_sym : (s t : Segment) → MeetOnce t s → MeetOnce s t
meet_sym s t m = record { at = m.at; first = m.second; second = m.first; only = λ q x y. m.only q y x }

flip : {A B : Type 0} → A ⊎ B → B ⊎ A
flip (inl a) = inr a
flip (inr b) = inl b

pub cross_sym : (s t : Segment) → CrossOnce t s → CrossOnce s t
unfolding meet_sym
cross_sym s t m = record { meet = meet_sym s t m.meet; inner = λ e. m.inner (flip e) }

pub touch_sym : (s t : Segment) → TouchOnce t s → TouchOnce s t
unfolding meet_sym
touch_sym s t m = record { meet = meet_sym s t m.meet; end = flip m.end }

pub overlap_sym : (s t : Segment) → Overlap t s → Overlap s t
overlap_sym s t o =
    record { p = o.p; q = o.q; apart = o.apart; p_on_s = o.p_on_t; p_on_t = o.p_on_s; q_on_s = o.q_on_t; q_on_t = o.q_on_s }

-- How far a place lies below the line through two points; where a segment and the way between the points have opposite signs at the ends
-- of what they have in common across, they share a point.
use Rattle.std.proofs.Common.{◌≡◌, ℕ, ◌<◌, ℤ, pos, ◌+ℤ◌, ◌-ℤ◌, ◌*ℤ◌, ◌≤ℤ◌, ◌<ℤ◌, arith, sym, ap, refl, inl, inr, ◌∙◌}
use Rattle.std.proofs.lemmas.Int.{ints}
use Rattle.plane_terms.specs.Point.{Place, Point, right_by, up_by}
use Rattle.plane_terms.specs.Segment.{Segment, cross, OnSegment}
use Rattle.plane_terms.specs.Between.{GoOneWay, LiesBetween}
use Rattle.number_laws.proofs.Ring.{num, ◌⊕◌, ◌⊖◌, ◌⊗◌, same_by, le_by, lt_by, le_read, lt_read, same_read}
use Rattle.number_laws.proofs.Order.{product_at_least, product_over, difference_over, least_unscaled, natural, scaled_le, lt_scaled, cases_order_ℤ}
use Rattle.cell_laws.proofs.Weights.{Mixed, on_mixed}
use Rattle.cell_laws.proofs.HalfPlanes.{left_value}
use Rattle.column_laws.proofs.Signs.{most_scaled}
use Rattle.column_laws.proofs.Segments.{on_from_line}
use Rattle.column_laws.proofs.Balances.{Opposite, Balance, balance_both, balance_right, balance_left}
use Rattle.column_laws.proofs.Between.{Weighed, weighed_point, lies_weighed, natural_over}

-- no point between p and q is on the segment
pub record Misses (s : Segment) (p q : Point) : Type 0 where
  pub never : (r : Point) → LiesBetween p q r → OnSegment s r → ⊥

-- how far v is below the line through p and q, scaled by how far q is right of p
abbrev pub depth : Point → Point → Place → ℤ
depth p q v = up_by p q *ℤ v.x -ℤ right_by p q *ℤ v.y +ℤ (p.y *ℤ q.x -ℤ p.x *ℤ q.y)

right_least : (u v : ℤ) → u ≤ℤ v → pos 0 ≤ℤ (v -ℤ u)
right_least u v h = omega (arith, ints)

right_under : (u v : ℤ) → v <ℤ u → (v -ℤ u) <ℤ pos 0
right_under u v h = omega (arith, ints)

right_most : (u v : ℤ) → v ≤ℤ u → (v -ℤ u) ≤ℤ pos 0
right_most u v h = omega (arith, ints)

over_weak : (u v : ℤ) → u <ℤ v → u ≤ℤ v
over_weak u v h = omega (arith, ints)

-- a wide segment has its ends in order
wide : (l h x : ℤ) (w : ℕ) → (l *ℤ pos w) ≤ℤ x → x <ℤ (h *ℤ pos w) → l <ℤ h
wide l h x w a b =
    elim (cases_order_ℤ l h) [
      | inl o ↦ o
      | inr o ↦ absurd (never (h *ℤ pos w) (l *ℤ pos w) x (scaled_le h l w o) a b)
    ]
  where
    never : (u v x : ℤ) → u ≤ℤ v → v ≤ℤ x → x <ℤ u → ⊥
    never u v x h k l = omega (arith, ints)

-- ---- a weighted middle of p and q on the segment
weighed_is : (dx dy lx ly px py qx qy n m : ℤ) (v w : ℕ)
    → dx *ℤ ((n *ℤ py +ℤ m *ℤ qy) -ℤ ly *ℤ (n *ℤ pos v +ℤ m *ℤ pos w)) -ℤ dy *ℤ
    ((n *ℤ px +ℤ m *ℤ qx) -ℤ lx *ℤ (n *ℤ pos v +ℤ m *ℤ pos w))
    ≡ n *ℤ (dx *ℤ (py -ℤ ly *ℤ pos v) -ℤ dy *ℤ (px -ℤ lx *ℤ pos v)) +ℤ m *ℤ (dx *ℤ (qy -ℤ ly *ℤ pos w) -ℤ dy *ℤ (qx -ℤ lx *ℤ pos w))
weighed_is dx dy lx ly px py qx qy n m v w =
    let both = num n ⊗ num (pos v) ⊕ num m ⊗ num (pos w) in
    same_by (num dx ⊗ ((num n ⊗ num py ⊕ num m ⊗ num qy) ⊖ num ly ⊗ both) ⊖ num dy ⊗
    ((num n ⊗ num px ⊕ num m ⊗ num qx) ⊖ num lx ⊗ both))
    (num n ⊗ (num dx ⊗ (num py ⊖ num ly ⊗ num (pos v)) ⊖ num dy ⊗ (num px ⊖ num lx ⊗ num (pos v))) ⊕ num m ⊗
    (num dx ⊗ (num qy ⊖ num ly ⊗ num (pos w)) ⊖ num dy ⊗ (num qx ⊖ num lx ⊗ num (pos w)))) (omega arith)

weighed_cross : (s : Segment) (p q r : Point) (n m : ℤ) → Weighed p q r n m → cross s r ≡ n *ℤ cross s p +ℤ m *ℤ cross s q
weighed_cross s p q r n m h =
    rw (h.w_is, h.x_is, h.y_is)
    (weighed_is (s.hi.x -ℤ s.lo.x) (s.hi.y -ℤ s.lo.y) s.lo.x s.lo.y p.x p.y q.x q.y n m p.w q.w)

weighed_right : (l px pw qx qw n m : ℤ) → pos 0 ≤ℤ (n *ℤ (px -ℤ l *ℤ pw) +ℤ m *ℤ (qx -ℤ l *ℤ qw))
    → (l *ℤ (n *ℤ pw +ℤ m *ℤ qw)) ≤ℤ (n *ℤ px +ℤ m *ℤ qx)
weighed_right l px pw qx qw n m h =
    let k = le_read (num (pos 0)) (num n ⊗ (num px ⊖ num l ⊗ num pw) ⊕ num m ⊗ (num qx ⊖ num l ⊗ num qw)) h in
    le_by (num l ⊗ (num n ⊗ num pw ⊕ num m ⊗ num qw)) (num n ⊗ num px ⊕ num m ⊗ num qx) (omega (arith, k))

weighed_left : (l px pw qx qw n m : ℤ) → pos 0 ≤ℤ (n *ℤ (l *ℤ pw -ℤ px) +ℤ m *ℤ (l *ℤ qw -ℤ qx))
    → (n *ℤ px +ℤ m *ℤ qx) ≤ℤ (l *ℤ (n *ℤ pw +ℤ m *ℤ qw))
weighed_left l px pw qx qw n m h =
    let k = le_read (num (pos 0)) (num n ⊗ (num l ⊗ num pw ⊖ num px) ⊕ num m ⊗ (num l ⊗ num qw ⊖ num qx)) h in
    le_by (num n ⊗ num px ⊕ num m ⊗ num qx) (num l ⊗ (num n ⊗ num pw ⊕ num m ⊗ num qw)) (omega (arith, k))

on_middle : (s : Segment) (p q r : Point) (n m : ℤ) → Weighed p q r n m → s.lo.x <ℤ s.hi.x → n *ℤ cross s p +ℤ m *ℤ cross s q ≡ pos 0
    → pos 0 ≤ℤ (n *ℤ (p.x -ℤ s.lo.x *ℤ pos p.w) +ℤ m *ℤ (q.x -ℤ s.lo.x *ℤ pos q.w))
    → pos 0 ≤ℤ (n *ℤ (s.hi.x *ℤ pos p.w -ℤ p.x) +ℤ m *ℤ (s.hi.x *ℤ pos q.w -ℤ q.x)) → OnSegment s r
on_middle s p q r n m g d e l h =
    on_from_line s r d (left_value s r ∙ (weighed_cross s p q r n m g ∙ e)) (record {
      right = rw (g.w_is, g.x_is) (weighed_right s.lo.x p.x (pos p.w) q.x (pos q.w) n m l);
      left = rw (g.w_is, g.x_is) (weighed_left s.hi.x p.x (pos p.w) q.x (pos q.w) n m h);
    })

-- the depth of an end by the crosses of p and q
low_depth : (dx dy lx ly px py qx qy : ℤ) (v w : ℕ)
    → dx *ℤ ((qy *ℤ pos v -ℤ py *ℤ pos w) *ℤ lx -ℤ (qx *ℤ pos v -ℤ px *ℤ pos w) *ℤ ly +ℤ (py *ℤ qx -ℤ px *ℤ qy))
    ≡ (qx -ℤ lx *ℤ pos w) *ℤ (dx *ℤ (py -ℤ ly *ℤ pos v) -ℤ dy *ℤ (px -ℤ lx *ℤ pos v)) -ℤ (px -ℤ lx *ℤ pos v) *ℤ
    (dx *ℤ (qy -ℤ ly *ℤ pos w) -ℤ dy *ℤ (qx -ℤ lx *ℤ pos w))
low_depth dx dy lx ly px py qx qy v w =
    let z = num (pos v) in
    let o = num (pos w) in
    same_by (num dx ⊗ ((num qy ⊗ z ⊖ num py ⊗ o) ⊗ num lx ⊖ (num qx ⊗ z ⊖ num px ⊗ o) ⊗ num ly ⊕ (num py ⊗ num qx ⊖ num px ⊗ num qy)))
    ((num qx ⊖ num lx ⊗ o) ⊗ (num dx ⊗ (num py ⊖ num ly ⊗ z) ⊖ num dy ⊗ (num px ⊖ num lx ⊗ z)) ⊖ (num px ⊖ num lx ⊗ z) ⊗
    (num dx ⊗ (num qy ⊖ num ly ⊗ o) ⊖ num dy ⊗ (num qx ⊖ num lx ⊗ o))) (omega arith)

-- how much deeper the high end is than the low one
more_depth : (u d k lx ly hx hy : ℤ) → u *ℤ hx -ℤ d *ℤ hy +ℤ k ≡ (u *ℤ lx -ℤ d *ℤ ly +ℤ k) +ℤ (u *ℤ (hx -ℤ lx) -ℤ d *ℤ (hy -ℤ ly))
more_depth u d k lx ly hx hy =
    same_by (num u ⊗ num hx ⊖ num d ⊗ num hy ⊕ num k)
    ((num u ⊗ num lx ⊖ num d ⊗ num ly ⊕ num k) ⊕ (num u ⊗ (num hx ⊖ num lx) ⊖ num d ⊗ (num hy ⊖ num ly))) (omega arith)

crosses_differ : (dx dy lx ly px py qx qy : ℤ) (v w : ℕ) → (qy *ℤ pos v -ℤ py *ℤ pos w) *ℤ dx -ℤ (qx *ℤ pos v -ℤ px *ℤ pos w) *ℤ dy
    ≡ pos v *ℤ (dx *ℤ (qy -ℤ ly *ℤ pos w) -ℤ dy *ℤ (qx -ℤ lx *ℤ pos w)) -ℤ pos w *ℤ (dx *ℤ (py -ℤ ly *ℤ pos v) -ℤ dy *ℤ (px -ℤ lx *ℤ pos v))
crosses_differ dx dy lx ly px py qx qy v w =
    let z = num (pos v) in
    let o = num (pos w) in
    same_by ((num qy ⊗ z ⊖ num py ⊗ o) ⊗ num dx ⊖ (num qx ⊗ z ⊖ num px ⊗ o) ⊗ num dy)
    (z ⊗ (num dx ⊗ (num qy ⊖ num ly ⊗ o) ⊖ num dy ⊗ (num qx ⊖ num lx ⊗ o)) ⊖ o ⊗
    (num dx ⊗ (num py ⊖ num ly ⊗ z) ⊖ num dy ⊗ (num px ⊖ num lx ⊗ z))) (omega arith)

-- from the one end to the other
carried : (lx hx px qx e c d : ℤ) (v w : ℕ) → (hx -ℤ lx) *ℤ e ≡ (qx -ℤ lx *ℤ pos w) *ℤ c -ℤ (px -ℤ lx *ℤ pos v) *ℤ d
    → (hx -ℤ lx) *ℤ (e +ℤ (pos v *ℤ d -ℤ pos w *ℤ c)) ≡ (hx *ℤ pos v -ℤ px) *ℤ d -ℤ (hx *ℤ pos w -ℤ qx) *ℤ c
carried lx hx px qx e c d v w h =
    let z = num (pos v) in
    let o = num (pos w) in
    let k = same_read ((num hx ⊖ num lx) ⊗ num e) ((num qx ⊖ num lx ⊗ o) ⊗ num c ⊖ (num px ⊖ num lx ⊗ z) ⊗ num d) h in
    same_by ((num hx ⊖ num lx) ⊗ (num e ⊕ (z ⊗ num d ⊖ o ⊗ num c))) ((num hx ⊗ z ⊖ num px) ⊗ num d ⊖ (num hx ⊗ o ⊖ num qx) ⊗ num c)
    (omega (arith, k))

high_depth : (s : Segment) (p q : Point) → (s.hi.x -ℤ s.lo.x) *ℤ depth p q s.hi
    ≡ (s.hi.x *ℤ pos p.w -ℤ p.x) *ℤ cross s q -ℤ (s.hi.x *ℤ pos q.w -ℤ q.x) *ℤ cross s p
high_depth s p q =
    let dx = s.hi.x -ℤ s.lo.x in
    let dy = s.hi.y -ℤ s.lo.y in
    let more : depth p q s.hi ≡ depth p q s.lo +ℤ (pos p.w *ℤ cross s q -ℤ pos q.w *ℤ cross s p) = more_depth (up_by p q) (right_by p q)
    (p.y *ℤ q.x -ℤ p.x *ℤ q.y) s.lo.x s.lo.y s.hi.x s.hi.y
    ∙ ap (λ v. depth p q s.lo +ℤ v) (crosses_differ dx dy s.lo.x s.lo.y p.x p.y q.x q.y p.w q.w) in
    ap (λ v. dx *ℤ v) more
    ∙ carried s.lo.x s.hi.x p.x q.x (depth p q s.lo) (cross s p) (cross s q) p.w q.w
    (low_depth dx dy s.lo.x s.lo.y p.x p.y q.x q.y p.w q.w)

module _ (s : Segment) (p q : Point) (miss : Misses s p q) where
  abbrev At : Type 0
  At = Balance (pos p.w) (pos q.w) (cross s p) (cross s q) (p.x -ℤ s.lo.x *ℤ pos p.w) (q.x -ℤ s.lo.x *ℤ pos q.w)
      (s.hi.x *ℤ pos p.w -ℤ p.x) (s.hi.x *ℤ pos q.w -ℤ q.x)

  no_balance : s.lo.x <ℤ s.hi.x → At → ⊥
  no_balance d b =
      let k = weighed_point p q b.n b.m b.n_least b.m_least b.w_over in
      miss.never k.0 (lies_weighed p q k.0 b.n b.m k.1) (on_middle s p q k.0 b.n b.m k.1 d b.even b.low b.high)

  -- p and q are both across from the segment
  pub both_across : (s.lo.x *ℤ pos p.w) ≤ℤ p.x → p.x <ℤ (s.hi.x *ℤ pos p.w) → (s.lo.x *ℤ pos q.w) ≤ℤ q.x → q.x <ℤ (s.hi.x *ℤ pos q.w)
      → Opposite (cross s p) (cross s q) → ⊥
  both_across a c b d o =
      no_balance (wide s.lo.x s.hi.x p.x p.w a c)
      (balance_both (pos p.w) (pos q.w) (cross s p) (cross s q) (p.x -ℤ s.lo.x *ℤ pos p.w) (q.x -ℤ s.lo.x *ℤ pos q.w)
      (s.hi.x *ℤ pos p.w -ℤ p.x) (s.hi.x *ℤ pos q.w -ℤ q.x) (natural_over p.w p.positive) (natural_over q.w q.positive)
      (right_least (s.lo.x *ℤ pos p.w) p.x a) (right_least (s.lo.x *ℤ pos q.w) q.x b)
      (right_least p.x (s.hi.x *ℤ pos p.w) (over_weak p.x (s.hi.x *ℤ pos p.w) c))
      (right_least q.x (s.hi.x *ℤ pos q.w) (over_weak q.x (s.hi.x *ℤ pos q.w) d)) o)

  -- p is, and the segment ends before q
  pub first_across : (s.lo.x *ℤ pos p.w) ≤ℤ p.x → p.x <ℤ (s.hi.x *ℤ pos p.w) → (s.lo.x *ℤ pos q.w) ≤ℤ q.x → (s.hi.x *ℤ pos q.w) ≤ℤ q.x
      → Opposite (cross s p) (depth p q s.hi) → ⊥
  first_across a c b d o =
      let w = wide s.lo.x s.hi.x p.x p.w a c in
      no_balance w
      (balance_right (pos p.w) (pos q.w) (cross s p) (cross s q) (p.x -ℤ s.lo.x *ℤ pos p.w) (q.x -ℤ s.lo.x *ℤ pos q.w)
      (s.hi.x *ℤ pos p.w -ℤ p.x) (s.hi.x *ℤ pos q.w -ℤ q.x) (natural_over p.w p.positive) (natural_over q.w q.positive)
      (s.hi.x -ℤ s.lo.x) (depth p q s.hi) (difference_over s.lo.x s.hi.x w)
      (high_depth s p q)
      (right_least (s.lo.x *ℤ pos p.w) p.x a) (right_least (s.lo.x *ℤ pos q.w) q.x b)
      (difference_over p.x (s.hi.x *ℤ pos p.w) c) (right_most q.x (s.hi.x *ℤ pos q.w) d) o)

  -- q is, and the segment begins after p
  pub second_across : p.x <ℤ (s.lo.x *ℤ pos p.w) → p.x <ℤ (s.hi.x *ℤ pos p.w) → (s.lo.x *ℤ pos q.w) ≤ℤ q.x
      → q.x <ℤ (s.hi.x *ℤ pos q.w) → Opposite (depth p q s.lo) (cross s q) → ⊥
  second_across a c b d o =
      let w = wide s.lo.x s.hi.x q.x q.w b d in
      no_balance w
      (balance_left (pos p.w) (pos q.w) (cross s p) (cross s q) (p.x -ℤ s.lo.x *ℤ pos p.w) (q.x -ℤ s.lo.x *ℤ pos q.w)
      (s.hi.x *ℤ pos p.w -ℤ p.x) (s.hi.x *ℤ pos q.w -ℤ q.x) (natural_over p.w p.positive) (natural_over q.w q.positive)
      (s.hi.x -ℤ s.lo.x) (depth p q s.lo) (difference_over s.lo.x s.hi.x w)
      (low_depth (s.hi.x -ℤ s.lo.x) (s.hi.y -ℤ s.lo.y) s.lo.x s.lo.y p.x p.y q.x q.y p.w q.w)
      (right_under (s.lo.x *ℤ pos p.w) p.x a) (right_least (s.lo.x *ℤ pos q.w) q.x b)
      (right_least p.x (s.hi.x *ℤ pos p.w) (over_weak p.x (s.hi.x *ℤ pos p.w) c))
      (right_least q.x (s.hi.x *ℤ pos q.w) (over_weak q.x (s.hi.x *ℤ pos q.w) d)) o)

  -- ---- the segment lies between p and q across
  -- a weighted middle of its ends
  mixed_point : (n m : ℤ) → pos 0 ≤ℤ n → pos 0 ≤ℤ m → pos 0 <ℤ (n +ℤ m) → (r : Point) × Mixed s r n m
  mixed_point n m h k o =
      let w = natural (n +ℤ m) o in (
        record { x = n *ℤ s.lo.x +ℤ m *ℤ s.hi.x; y = n *ℤ s.lo.y +ℤ m *ℤ s.hi.y; w = w.0; positive = w.1 },
        record { n_least = h; m_least = k; w_is = sym w.2; x_is = refl; y_is = refl },
      )

  abbrev Within : Type 0
  Within = Balance (pos 1) (pos 1) (depth p q s.lo) (depth p q s.hi) (s.lo.x *ℤ pos p.w -ℤ p.x) (s.hi.x *ℤ pos p.w -ℤ p.x)
      (q.x -ℤ s.lo.x *ℤ pos q.w) (q.x -ℤ s.hi.x *ℤ pos q.w)

  lies_within : (b : Within) (r : Point) → Mixed s r b.n b.m → pos 0 <ℤ right_by p q → LiesBetween p q r
  lies_within b r g d =
      let level : up_by p q *ℤ r.x -ℤ right_by p q *ℤ r.y +ℤ (p.y *ℤ q.x -ℤ p.x *ℤ q.y) *ℤ pos r.w ≡ pos 0 = rw (g.w_is, g.x_is, g.y_is)
      (mixed_depth (up_by p q) (right_by p q) (p.y *ℤ q.x -ℤ p.x *ℤ q.y) s.lo.x s.lo.y s.hi.x s.hi.y b.n b.m ∙ b.even) in
      let first : right_by p q *ℤ up_by p r ≡ up_by p q *ℤ right_by p r = from_turn (up_by p q *ℤ right_by p r) (right_by p q *ℤ up_by p r)
      (pos p.w) (up_by p q *ℤ r.x -ℤ right_by p q *ℤ r.y +ℤ (p.y *ℤ q.x -ℤ p.x *ℤ q.y) *ℤ pos r.w)
      (turn_first p.x p.y q.x q.y r.x r.y p.w q.w r.w) level in
      let second : up_by p q *ℤ right_by r q ≡ right_by p q *ℤ up_by r q = from_turn (right_by p q *ℤ up_by r q)
      (up_by p q *ℤ right_by r q) (pos q.w)
      (up_by p q *ℤ r.x -ℤ right_by p q *ℤ r.y +ℤ (p.y *ℤ q.x -ℤ p.x *ℤ q.y) *ℤ pos r.w)
      (turn_second p.x p.y q.x q.y r.x r.y p.w q.w r.w) level in
      let right : pos 0 ≤ℤ right_by p r = rw (g.w_is, g.x_is) (mixed_right s.lo.x s.hi.x p.x (pos p.w) b.n b.m b.low) in
      let right_on : pos 0 ≤ℤ right_by r q = rw (g.w_is, g.x_is) (mixed_left s.lo.x s.hi.x q.x (pos q.w) b.n b.m b.high) in
      record {
        straight = first;
        across = inl (right, right_on);
        along = one_way_line (right_by p q) (up_by p q) (right_by p r) (right_by r q) (up_by p r) (up_by r q) d first (sym second) right
            right_on;
      }
    where
      mixed_depth : (u d k lx ly hx hy n m : ℤ) → u *ℤ (n *ℤ lx +ℤ m *ℤ hx) -ℤ d *ℤ (n *ℤ ly +ℤ m *ℤ hy) +ℤ k *ℤ (n +ℤ m)
          ≡ n *ℤ (u *ℤ lx -ℤ d *ℤ ly +ℤ k) +ℤ m *ℤ (u *ℤ hx -ℤ d *ℤ hy +ℤ k)
      mixed_depth u d k lx ly hx hy n m =
          same_by (num u ⊗ (num n ⊗ num lx ⊕ num m ⊗ num hx) ⊖ num d ⊗ (num n ⊗ num ly ⊕ num m ⊗ num hy) ⊕ num k ⊗ (num n ⊕ num m))
          (num n ⊗ (num u ⊗ num lx ⊖ num d ⊗ num ly ⊕ num k) ⊕ num m ⊗ (num u ⊗ num hx ⊖ num d ⊗ num hy ⊕ num k)) (omega arith)

      turn_first : (px py qx qy rx ry : ℤ) (v w z : ℕ)
          → (qy *ℤ pos v -ℤ py *ℤ pos w) *ℤ (rx *ℤ pos v -ℤ px *ℤ pos z) -ℤ (qx *ℤ pos v -ℤ px *ℤ pos w) *ℤ (ry *ℤ pos v -ℤ py *ℤ pos z)
          ≡ pos v *ℤ ((qy *ℤ pos v -ℤ py *ℤ pos w) *ℤ rx -ℤ (qx *ℤ pos v -ℤ px *ℤ pos w) *ℤ ry +ℤ (py *ℤ qx -ℤ px *ℤ qy) *ℤ pos z)
      turn_first px py qx qy rx ry v w z =
          let u = num qy ⊗ num (pos v) ⊖ num py ⊗ num (pos w) in
          let d = num qx ⊗ num (pos v) ⊖ num px ⊗ num (pos w) in
          same_by (u ⊗ (num rx ⊗ num (pos v) ⊖ num px ⊗ num (pos z)) ⊖ d ⊗ (num ry ⊗ num (pos v) ⊖ num py ⊗ num (pos z)))
          (num (pos v) ⊗ (u ⊗ num rx ⊖ d ⊗ num ry ⊕ (num py ⊗ num qx ⊖ num px ⊗ num qy) ⊗ num (pos z))) (omega arith)

      turn_second : (px py qx qy rx ry : ℤ) (v w z : ℕ)
          → (qx *ℤ pos v -ℤ px *ℤ pos w) *ℤ (qy *ℤ pos z -ℤ ry *ℤ pos w) -ℤ (qy *ℤ pos v -ℤ py *ℤ pos w) *ℤ (qx *ℤ pos z -ℤ rx *ℤ pos w)
          ≡ pos w *ℤ ((qy *ℤ pos v -ℤ py *ℤ pos w) *ℤ rx -ℤ (qx *ℤ pos v -ℤ px *ℤ pos w) *ℤ ry +ℤ (py *ℤ qx -ℤ px *ℤ qy) *ℤ pos z)
      turn_second px py qx qy rx ry v w z =
          let u = num qy ⊗ num (pos v) ⊖ num py ⊗ num (pos w) in
          let d = num qx ⊗ num (pos v) ⊖ num px ⊗ num (pos w) in
          same_by (d ⊗ (num qy ⊗ num (pos z) ⊖ num ry ⊗ num (pos w)) ⊖ u ⊗ (num qx ⊗ num (pos z) ⊖ num rx ⊗ num (pos w)))
          (num (pos w) ⊗ (u ⊗ num rx ⊖ d ⊗ num ry ⊕ (num py ⊗ num qx ⊖ num px ⊗ num qy) ⊗ num (pos z))) (omega arith)

      from_turn : (u v w z : ℤ) → u -ℤ v ≡ w *ℤ z → z ≡ pos 0 → v ≡ u
      from_turn u v w z e f = level u v (e ∙ rw f (same_by (num w ⊗ num (pos 0)) (num (pos 0)) (omega arith)))
        where
          level : (u v : ℤ) → u -ℤ v ≡ pos 0 → v ≡ u
          level u v h = omega (arith, ints)

      mixed_right : (l h x w n m : ℤ) → pos 0 ≤ℤ (n *ℤ (l *ℤ w -ℤ x) +ℤ m *ℤ (h *ℤ w -ℤ x))
          → pos 0 ≤ℤ ((n *ℤ l +ℤ m *ℤ h) *ℤ w -ℤ x *ℤ (n +ℤ m))
      mixed_right l h x w n m k =
          let e = le_read (num (pos 0)) (num n ⊗ (num l ⊗ num w ⊖ num x) ⊕ num m ⊗ (num h ⊗ num w ⊖ num x)) k in
          le_by (num (pos 0)) ((num n ⊗ num l ⊕ num m ⊗ num h) ⊗ num w ⊖ num x ⊗ (num n ⊕ num m)) (omega (arith, e))

      mixed_left : (l h x w n m : ℤ) → pos 0 ≤ℤ (n *ℤ (x -ℤ l *ℤ w) +ℤ m *ℤ (x -ℤ h *ℤ w))
          → pos 0 ≤ℤ (x *ℤ (n +ℤ m) -ℤ (n *ℤ l +ℤ m *ℤ h) *ℤ w)
      mixed_left l h x w n m k =
          let e = le_read (num (pos 0)) (num n ⊗ (num x ⊖ num l ⊗ num w) ⊕ num m ⊗ (num x ⊖ num h ⊗ num w)) k in
          le_by (num (pos 0)) (num x ⊗ (num n ⊕ num m) ⊖ (num n ⊗ num l ⊕ num m ⊗ num h) ⊗ num w) (omega (arith, e))

      -- along a line that goes right
      one_way_line : (d u a b x y : ℤ) → pos 0 <ℤ d → d *ℤ x ≡ u *ℤ a → d *ℤ y ≡ u *ℤ b → pos 0 ≤ℤ a → pos 0 ≤ℤ b → GoOneWay x y
      one_way_line d u a b x y pd e f h k =
          elim (cases_order_ℤ u (pos 0)) [
            | inl l ↦ inr (down x a e (most_scaled u a (weak u l) h), down y b f (most_scaled u b (weak u l) k))
            | inr l ↦ inl (
              least_unscaled d x pd (rw e (product_at_least u a l h)),
              least_unscaled d y pd (rw f (product_at_least u b l k)),
            )
          ]
        where
          weak : (u : ℤ) → u <ℤ pos 0 → u ≤ℤ pos 0
          weak u h = omega (arith, ints)

          over_most : (v z : ℤ) → v ≡ z → pos 0 <ℤ v → z ≤ℤ pos 0 → ⊥
          over_most v z e h k = omega (arith, ints)

          down : (x a : ℤ) → d *ℤ x ≡ u *ℤ a → (u *ℤ a) ≤ℤ pos 0 → x ≤ℤ pos 0
          down x a e m =
              elim (cases_order_ℤ (pos 0) x) [
                | inl o ↦ absurd (over_most (d *ℤ x) (u *ℤ a) e (product_over d x pd o) m)
                | inr o ↦ o
              ]

  pub within_across : p.x <ℤ (s.lo.x *ℤ pos p.w) → p.x <ℤ (s.hi.x *ℤ pos p.w) → (s.lo.x *ℤ pos q.w) ≤ℤ q.x
      → (s.hi.x *ℤ pos q.w) ≤ℤ q.x → Opposite (depth p q s.lo) (depth p q s.hi) → ⊥
  within_across a c b d o =
      let k : Within = balance_both (pos 1) (pos 1) (depth p q s.lo) (depth p q s.hi) (s.lo.x *ℤ pos p.w -ℤ p.x) (s.hi.x *ℤ pos p.w -ℤ p.x)
      (q.x -ℤ s.lo.x *ℤ pos q.w) (q.x -ℤ s.hi.x *ℤ pos q.w) (omega (arith, ints)) (omega (arith, ints))
      (right_least p.x (s.lo.x *ℤ pos p.w) (over_weak p.x (s.lo.x *ℤ pos p.w) a))
      (right_least p.x (s.hi.x *ℤ pos p.w) (over_weak p.x (s.hi.x *ℤ pos p.w) c))
      (right_least (s.lo.x *ℤ pos q.w) q.x b) (right_least (s.hi.x *ℤ pos q.w) q.x d) o in
      let r = mixed_point k.n k.m k.n_least k.m_least (once k.n k.m k.w_over) in
      miss.never r.0 (lies_within k r.0 r.1 (right_from p.x q.x s.lo.x p.w q.w q.positive a b)) (on_mixed s r.0 k.n k.m r.1)
    where
      once : (n m : ℤ) → pos 0 <ℤ (n *ℤ pos 1 +ℤ m *ℤ pos 1) → pos 0 <ℤ (n +ℤ m)
      once n m h =
          let e = lt_read (num (pos 0)) (num n ⊗ num (pos 1) ⊕ num m ⊗ num (pos 1)) h in
          lt_by (num (pos 0)) (num n ⊕ num m) (omega (arith, e))

      right_from : (x y l : ℤ) (v w : ℕ) → 0 < w → x <ℤ (l *ℤ pos v) → (l *ℤ pos w) ≤ℤ y → pos 0 <ℤ (y *ℤ pos v -ℤ x *ℤ pos w)
      right_from x y l v w pw h k =
          let e = lt_read (num x ⊗ num (pos w)) (num l ⊗ num (pos v) ⊗ num (pos w)) (lt_scaled x (l *ℤ pos v) w pw h) in
          let f = le_read (num l ⊗ num (pos w) ⊗ num (pos v)) (num y ⊗ num (pos v)) (scaled_le (l *ℤ pos w) y v k) in
          lt_by (num (pos 0)) (num y ⊗ num (pos v) ⊖ num x ⊗ num (pos w)) (omega (arith, e, f))

-- What is at least some number at all corners is so in all of a cell of the grid, and the other way round.
use Rattle.std.proofs.Common.{◌≡◌, ◌↔◌, ℕ, ◌+◌, ◌*◌, ◌<◌, ℤ, pos, negsuc, zero, suc, ◌+ℤ◌, ◌-ℤ◌, ◌*ℤ◌, neg_ℤ, ◌≤ℤ◌, ◌<ℤ◌, arith, refl, sym, subst, ap, ◌∙◌, inl, inr, [], ◌∷◌, unsigned_abs}
use Rattle.std.specs.Prelude.{◌≢◌}
use Rattle.std.proofs.lemmas.Int.{ints}
use Rattle.plane_terms.specs.Lists.{Every, SomeOf}
use Rattle.plane_terms.specs.Point.{Point}
use Rattle.plane_terms.specs.Rectangle.{Rectangle, RectHolds}
use Rattle.plane_terms.specs.HalfPlane.{HalfPlane, Says, weak_op}
use Rattle.plane_terms.specs.Cell.{Cell, InCell, HasPoint, weak_of, IsLeastFrame}
use Rattle.plane_terms.specs.declared.op.Op.{Op}
use Rattle.plane_terms.specs.declared.op.Op.TheVariants.{Over, AtLeast, Zero}
use Rattle.convex_cell.specs.Frame.{IsOnGrid}
use Rattle.number_laws.proofs.Ring.{num, neg, ◌⊕◌, ◌⊖◌, ◌⊗◌, same_by}
use Rattle.number_laws.proofs.Order.{product_over, product_at_least, least_unscaled, cases_order_ℤ, natural, square_least}
use Rattle.cell_corners.specs.declared.corner.Corner.{Corner}
use Rattle.plane_terms.specs.Corners.{MeetAt, IsCorner, IsLeastRound}
use Rattle.cell_corners.specs.Listed.{value_on, corner_at}
use Rattle.cell_corners.specs.Held.{HoldsOn}
use Rattle.cell_corners.proofs.OnLines.{closed_is}
use Rattle.cell_corners.proofs.Walks.{Way, slope, gone, value_gone, Stays, mixed, Hit, ever, ended, walk}

-- how far a point lies along a way, so many times its denominator
abbrev pub far : Way → Corner → ℤ
far f k = f.x *ℤ k.x +ℤ f.y *ℤ k.y

-- e is at most that
abbrev pub IsBelow : Way → ℤ → Corner → Type 0
IsBelow f e k = (e *ℤ k.w) ≤ℤ far f k

-- ---- a cell of the grid does not go on for ever

weak_says : (o : Op) (v : ℤ) → Says o v → Says (weak_op o) v
weak_says Over v h = omega (arith, ints)
weak_says AtLeast v h = h
weak_says Zero v h = h

pub weak_in : (c : Cell) (p : Point) → InCell c p → Every (HoldsOn (corner_at p)) c
weak_in [] p i = tt
weak_in (h ∷ hs) p i = (weak_says h.op (value_on h (corner_at p)) i.0, weak_in hs p i.1)

says_on : (o : Op) (a m s : ℤ) → pos 0 ≤ℤ m → Says o a → Says (weak_op o) s → Says o (pos 1 *ℤ a +ℤ m *ℤ s)
says_on Over a m s p h k = more (pos 1 *ℤ a) (m *ℤ s) (subst (λ z. pos 0 <ℤ z) (one a) h) (product_at_least m s p k)
  where
    one : (a : ℤ) → a ≡ pos 1 *ℤ a
    one a = same_by (num a) (num (pos 1) ⊗ num a) (omega arith)

    more : (x y : ℤ) → pos 0 <ℤ x → pos 0 ≤ℤ y → pos 0 <ℤ (x +ℤ y)
    more x y h k = omega (arith, ints)
says_on AtLeast a m s p h k = mixed AtLeast (pos 1) m a s (omega (arith, ints)) p h k
says_on Zero a m s p h k = mixed Zero (pos 1) m a s (omega (arith, ints)) p h k

-- m steps along the way
abbrev on : Point → ℕ → Way → Point
on p m v = record { x = pos 1 *ℤ p.x +ℤ pos m *ℤ v.x; y = pos 1 *ℤ p.y +ℤ pos m *ℤ v.y; w = p.w; positive = p.positive }

in_on : (c : Cell) (p : Point) (m : ℕ) (v : Way) → InCell c p → Every (Stays v) c → InCell c (on p m v)
in_on [] p m v i s = tt
in_on (g ∷ gs) p m v i s = (
  subst (Says g.op) (sym (value_is g)) (says_on g.op (value_on g (corner_at p)) (pos m) (slope g v) (omega (arith, ints)) i.0 s.0),
  in_on gs p m v i.1 s.1,
)
  where
    value_is : (g : HalfPlane) → value_on g (corner_at (on p m v)) ≡ pos 1 *ℤ value_on g (corner_at p) +ℤ pos m *ℤ slope g v
    value_is g =
        same_by (num g.a ⊗ (num (pos 1) ⊗ num p.x ⊕ num (pos m) ⊗ num v.x) ⊕ num g.b ⊗
        (num (pos 1) ⊗ num p.y ⊕ num (pos m) ⊗ num v.y) ⊕ num g.c ⊗ num (pos p.w))
        (num (pos 1) ⊗ (num g.a ⊗ num p.x ⊕ num g.b ⊗ num p.y ⊕ num g.c ⊗ num (pos p.w)) ⊕ num (pos m) ⊗
        (num g.a ⊗ num v.x ⊕ num g.b ⊗ num v.y)) (omega arith)

-- a number from -2^22 to 2^22, times w, does not grow by 2^23 + 1 times w
beyond : (x v : ℤ) (w : ℕ) → 0 < w → (negsuc 4194303 *ℤ pos w) ≤ℤ x → x ≤ℤ (pos 4194304 *ℤ pos w)
    → (negsuc 4194303 *ℤ pos w) ≤ℤ (pos 1 *ℤ x +ℤ pos (8388609 * w) *ℤ v) → (pos 1 *ℤ x +ℤ pos (8388609 * w) *ℤ v) ≤ℤ (pos 4194304 *ℤ pos w)
    → v ≡ pos 0
beyond x (pos zero) w p a b c d = refl
beyond x (pos (suc n)) w p a b c d =
    absurd (over x (pos (8388609 * w) *ℤ pos (suc n)) w p a (more n w) (subst (λ z. z ≤ℤ (pos 4194304 *ℤ pos w)) (plain x (pos (8388609 * w) *ℤ pos (suc n))) d))
  where
    plain : (x y : ℤ) → pos 1 *ℤ x +ℤ y ≡ x +ℤ y
    plain x y = same_by (num (pos 1) ⊗ num x ⊕ num y) (num x ⊕ num y) (omega arith)

    more : (n w : ℕ) → pos (8388609 * w) ≤ℤ (pos (8388609 * w) *ℤ pos (suc n))
    more n w = omega (arith, ints)

    over : (x y : ℤ) (w : ℕ) → 0 < w → (negsuc 4194303 *ℤ pos w) ≤ℤ x → pos (8388609 * w) ≤ℤ y → (x +ℤ y) ≤ℤ (pos 4194304 *ℤ pos w) → ⊥
    over x y w p a m d = omega (arith, ints)
beyond x (negsuc n) w p a b c d =
    absurd (under x (pos (8388609 * w) *ℤ negsuc n) w p b (less n w) (subst (λ z. (negsuc 4194303 *ℤ pos w) ≤ℤ z) (plain x (pos (8388609 * w) *ℤ negsuc n)) c))
  where
    plain : (x y : ℤ) → pos 1 *ℤ x +ℤ y ≡ x +ℤ y
    plain x y = same_by (num (pos 1) ⊗ num x ⊕ num y) (num x ⊕ num y) (omega arith)

    less : (n w : ℕ) → (pos (8388609 * w) *ℤ negsuc n) ≤ℤ neg_ℤ (pos (8388609 * w))
    less n w = omega (arith, ints)

    under : (x y : ℤ) (w : ℕ) → 0 < w → x ≤ℤ (pos 4194304 *ℤ pos w) → y ≤ℤ neg_ℤ (pos (8388609 * w)) → (negsuc 4194303 *ℤ pos w) ≤ℤ (x +ℤ y) → ⊥
    under x y w p a m d = omega (arith, ints)

pub not_ever : (c : Cell) (p : Point) (v : Way) → IsOnGrid c → InCell c p → Every (Stays v) c → (v.x ≡ pos 0) × (v.y ≡ pos 0)
not_ever c p v g i s =
    let q = on p (8388609 * p.w) v in
    let a = g p i in
    let b = g q (in_on c p (8388609 * p.w) v i s) in (
      beyond p.x v.x p.w p.positive a.left a.right b.left b.right,
      beyond p.y v.y p.w p.positive a.below a.above b.below b.above,
    )

-- ---- two walks come to a corner

abbrev against : Way → Way
against f = record { x = neg_ℤ f.x; y = neg_ℤ f.y }

abbrev inner : Way → Way → ℤ
inner f v = f.x *ℤ v.x +ℤ f.y *ℤ v.y

-- what is at most so far along f before a step down is so after it
below_back : (f : Way) (e n m : ℤ) (k : Corner) (v : Way) → pos 0 <ℤ n → pos 0 ≤ℤ m → inner f v ≤ℤ pos 0 → IsBelow f e (gone n m k v) → IsBelow f e k
below_back f e n m k v p q d b =
    let s : pos 0 ≤ℤ (m *ℤ neg_ℤ (inner f v)) = product_at_least m (neg_ℤ (inner f v)) q (other (inner f v) d) in
    let t : far f (gone n m k v) ≡ n *ℤ far f k +ℤ m *ℤ inner f v =
    same_by (num f.x ⊗ (num n ⊗ num k.x ⊕ num m ⊗ num v.x) ⊕ num f.y ⊗ (num n ⊗ num k.y ⊕ num m ⊗ num v.y))
    (num n ⊗ (num f.x ⊗ num k.x ⊕ num f.y ⊗ num k.y) ⊕ num m ⊗ (num f.x ⊗ num v.x ⊕ num f.y ⊗ num v.y)) (omega arith) in
    let r : n *ℤ (far f k -ℤ e *ℤ k.w) ≡ ((n *ℤ far f k +ℤ m *ℤ inner f v) -ℤ e *ℤ (n *ℤ k.w)) +ℤ m *ℤ neg_ℤ (inner f v) =
    same_by (num n ⊗ (num (far f k) ⊖ num e ⊗ num k.w))
    (((num n ⊗ num (far f k) ⊕ num m ⊗ num (inner f v)) ⊖ num e ⊗ (num n ⊗ num k.w)) ⊕ num m ⊗ neg (num (inner f v))) (omega arith) in
    let a : pos 0 ≤ℤ ((n *ℤ far f k +ℤ m *ℤ inner f v) -ℤ e *ℤ (n *ℤ k.w)) =
    apart (e *ℤ (n *ℤ k.w)) (n *ℤ far f k +ℤ m *ℤ inner f v) (subst (λ z. (e *ℤ (n *ℤ k.w)) ≤ℤ z) t b) in
    back (e *ℤ k.w) (far f k)
    (least_unscaled n (far f k -ℤ e *ℤ k.w) p (subst (λ z. pos 0 ≤ℤ z) (sym r) (both _ _ a s)))
  where
    other : (x : ℤ) → x ≤ℤ pos 0 → pos 0 ≤ℤ neg_ℤ x
    other x h = omega (arith, ints)

    apart : (x y : ℤ) → x ≤ℤ y → pos 0 ≤ℤ (y -ℤ x)
    apart x y h = omega (arith, ints)

    back : (x y : ℤ) → pos 0 ≤ℤ (y -ℤ x) → x ≤ℤ y
    back x y h = omega (arith, ints)

    both : (x y : ℤ) → pos 0 ≤ℤ x → pos 0 ≤ℤ y → pos 0 ≤ℤ (x +ℤ y)
    both x y h k = omega (arith, ints)

against_down : (f : Way) → inner f (against f) ≤ℤ pos 0
against_down f =
    let e : inner f (against f) ≡ neg_ℤ (f.x *ℤ f.x +ℤ f.y *ℤ f.y) =
    same_by (num f.x ⊗ neg (num f.x) ⊕ num f.y ⊗ neg (num f.y)) (neg (num f.x ⊗ num f.x ⊕ num f.y ⊗ num f.y)) (omega arith) in
    subst (λ z. z ≤ℤ pos 0) (sym e) (under (f.x *ℤ f.x) (f.y *ℤ f.y) (square_least f.x) (square_least f.y))
  where
    under : (x y : ℤ) → pos 0 ≤ℤ x → pos 0 ≤ℤ y → neg_ℤ (x +ℤ y) ≤ℤ pos 0
    under x y h k = omega (arith, ints)

-- a way along the line of g on which f does not grow
record AlongLine (g : HalfPlane) (f : Way) : Type 0 where
  u : Way
  down : inner f u ≤ℤ pos 0
  flat : slope g u ≡ pos 0
  cross : (h : HalfPlane) → slope h u ≢ pos 0 → g.a *ℤ h.b ≢ h.a *ℤ g.b
  a_none : u.y ≡ pos 0 → g.a ≡ pos 0
  b_none : u.x ≡ pos 0 → g.b ≡ pos 0

apart_none : (x y : ℤ) → x ≡ y → y -ℤ x ≡ pos 0
apart_none x y e = omega (arith, ints)

turned_none : (x : ℤ) → neg_ℤ x ≡ pos 0 → x ≡ pos 0
turned_none x e = omega (arith, ints)

along_line : (g : HalfPlane) (f : Way) → AlongLine g f
along_line g f = elim (cases_order_ℤ (pos 0) (f.x *ℤ g.b +ℤ f.y *ℤ neg_ℤ g.a)) [
  | inl over ↦ record {
    u = record { x = neg_ℤ g.b; y = g.a };
    down = subst (λ z. z ≤ℤ pos 0) (same_by (neg (num f.x ⊗ num g.b ⊕ num f.y ⊗ neg (num g.a))) (num f.x ⊗ neg (num g.b) ⊕ num f.y ⊗ num g.a) (omega arith))
        (under (f.x *ℤ g.b +ℤ f.y *ℤ neg_ℤ g.a) over);
    flat = same_by (num g.a ⊗ neg (num g.b) ⊕ num g.b ⊗ num g.a) (num (pos 0)) (omega arith);
    cross = λ h n e. n (same_by (num h.a ⊗ neg (num g.b) ⊕ num h.b ⊗ num g.a) (num g.a ⊗ num h.b ⊖ num h.a ⊗ num g.b) (omega arith)
        ∙ apart_none (h.a *ℤ g.b) (g.a *ℤ h.b) (sym e));
    a_none = λ e. e;
    b_none = λ e. turned_none g.b e;
  }
  | inr least ↦ record {
    u = record { x = g.b; y = neg_ℤ g.a };
    down = least;
    flat = same_by (num g.a ⊗ num g.b ⊕ num g.b ⊗ neg (num g.a)) (num (pos 0)) (omega arith);
    cross = λ h n e. n (same_by (num h.a ⊗ num g.b ⊕ num h.b ⊗ neg (num g.a)) (num h.a ⊗ num g.b ⊖ num g.a ⊗ num h.b) (omega arith)
        ∙ apart_none (g.a *ℤ h.b) (h.a *ℤ g.b) e);
    a_none = λ e. turned_none g.a e;
    b_none = λ e. e;
  }
]
  where
    under : (x : ℤ) → pos 0 <ℤ x → neg_ℤ x ≤ℤ pos 0
    under x h = omega (arith, ints)

slope_none : (g : HalfPlane) (v : Way) → g.a ≡ pos 0 → g.b ≡ pos 0 → slope g v ≡ pos 0
slope_none g v e f = rw (e, f) (same_by (num (pos 0) ⊗ num v.x ⊕ num (pos 0) ⊗ num v.y) (num (pos 0)) (omega arith))

flat_zero : (n m a s : ℤ) → a ≡ pos 0 → s ≡ pos 0 → n *ℤ a +ℤ m *ℤ s ≡ pos 0
flat_zero n m a s e f = rw (e, f) (same_by (num n ⊗ num (pos 0) ⊕ num m ⊗ num (pos 0)) (num (pos 0)) (omega arith))

pub record CornerBelow (c : Cell) (p : Point) (f : Way) : Type 0 where
  pub q : Point
  pub corner : IsCorner c q
  pub below : (e : ℤ) → IsBelow f e (corner_at q) → IsBelow f e (corner_at p)

abbrev point_of : Corner → (n : ℕ) → 0 < n → Point
point_of k n p = record { x = k.x; y = k.y; w = n; positive = p }

same_corner : (k : Corner) (n : ℕ) (p : 0 < n) → k.w ≡ pos n → k ≡ corner_at (point_of k n p)
same_corner k n p e = ap (λ (z : ℤ). record k { w = z }) e

-- from the second walk's end
corner_at_end : (c : Cell) (p : Point) (f : Way) (n m : ℤ) (v : Way) (g : HalfPlane) (l : AlongLine g f) → pos 0 <ℤ n → pos 0 ≤ℤ m
    → inner f v ≤ℤ pos 0 → value_on g (gone n m (corner_at p) v) ≡ pos 0 → ((R : HalfPlane → Type 0) → R g → SomeOf R c)
    → Hit c (gone n m (corner_at p) v) l.u → CornerBelow c p f
corner_at_end c p f n m v g l np mp d z inside j =
    let k1 = gone n m (corner_at p) v in
    let k2 = gone j.n j.m k1 l.u in
    let over : pos 0 <ℤ k2.w = product_over j.n (n *ℤ pos p.w) j.n_over (product_over n (pos p.w) np (omega (arith, ints, p.positive))) in
    let w = natural k2.w over in
    let q = point_of k2 w.0 w.1 in
    let same : k2 ≡ corner_at q = same_corner k2 w.0 w.1 w.2 in
    let g_zero : value_on g (corner_at q) ≡ pos 0 =
    subst (λ (k : Corner). value_on g k ≡ pos 0) same
    (value_gone g j.n j.m k1 l.u ∙ flat_zero j.n j.m (value_on g k1) (slope g l.u) z l.flat) in
    let h_zero : value_on j.g (corner_at q) ≡ pos 0 = subst (λ (k : Corner). value_on j.g k ≡ pos 0) same j.zero in
    let meet : MeetAt q g j.g = record { slanted = l.cross j.g j.slanted; first = g_zero; second = h_zero } in record {
      q = q;
      corner = record {
        closed = (closed_is c q).0 (subst (λ (k : Corner). Every (HoldsOn k) c) same j.all);
        met = inside (λ h. SomeOf (λ g. MeetAt q h g) c) (j.inside (λ h. MeetAt q g h) meet);
      };
      below = λ e b. below_back f e n m (corner_at p) v np mp d
          (below_back f e j.n j.m k1 l.u j.n_over j.m_least l.down (subst (IsBelow f e) (sym same) b));
    }

second_walk : (c : Cell) (p : Point) (f : Way) → IsOnGrid c → InCell c p → Hit c (corner_at p) (against f) → CornerBelow c p f
second_walk c p f grid i t =
    let l = along_line t.g f in
    let k1 = gone t.n t.m (corner_at p) (against f) in
    elim (walk c k1 l.u t.all) [
      | ever s ↦
          let z = not_ever c p l.u grid i s in
          absurd (t.slanted (slope_none t.g (against f) (l.a_none z.1) (l.b_none z.0)))
      | ended j ↦ corner_at_end c p f t.n t.m (against f) t.g l t.n_over t.m_least (against_down f) t.zero t.inside j
    ]

-- no point of the cell is lower along f than all corners
pub corner_below : (c : Cell) (p : Point) (f : Way) → ¬ ((f.x ≡ pos 0) × (f.y ≡ pos 0)) → IsOnGrid c → InCell c p → CornerBelow c p f
corner_below c p f some grid i = elim (walk c (corner_at p) (against f) (weak_in c p i)) [
  | ever s ↦ let z = not_ever c p (against f) grid i s in absurd (some (turned_none f.x z.0, turned_none f.y z.1))
  | ended t ↦ second_walk c p f grid i t
]

-- ---- and what is so in all of the cell is so at its corners

abbrev mixture : ℕ → Point → Point → Point
mixture n q p = record { x = pos n *ℤ q.x +ℤ p.x; y = pos n *ℤ q.y +ℤ p.y; w = n * q.w + p.w; positive = omega (arith, p.positive) }

holds_mixed : (c : Cell) (n : ℕ) (q p : Point) → InCell (weak_of c) q → InCell c p → InCell c (mixture n q p)
holds_mixed [] n q p a i = tt
holds_mixed (h ∷ hs) n q p a i = (
  subst (Says h.op) (sym value_is) (says h.op (value_on h (corner_at q)) (value_on h (corner_at p)) a.0 i.0),
  holds_mixed hs n q p a.1 i.1,
)
  where
    value_is : h.a *ℤ (pos n *ℤ q.x +ℤ p.x) +ℤ h.b *ℤ (pos n *ℤ q.y +ℤ p.y) +ℤ h.c *ℤ pos (n * q.w + p.w)
        ≡ pos n *ℤ value_on h (corner_at q) +ℤ value_on h (corner_at p)
    value_is =
        same_by (num h.a ⊗ (num (pos n) ⊗ num q.x ⊕ num p.x) ⊕ num h.b ⊗ (num (pos n) ⊗ num q.y ⊕ num p.y) ⊕ num h.c ⊗ num
        (pos (n * q.w + p.w))) (num (pos n) ⊗ (num h.a ⊗ num q.x ⊕ num h.b ⊗ num q.y ⊕ num h.c ⊗ num (pos q.w)) ⊕
        (num h.a ⊗ num p.x ⊕ num h.b ⊗ num p.y ⊕ num h.c ⊗ num (pos p.w))) (omega arith)

    over : (x y : ℤ) → pos 0 ≤ℤ x → pos 0 <ℤ y → pos 0 <ℤ (x +ℤ y)
    over x y h k = omega (arith, ints)

    least : (x y : ℤ) → pos 0 ≤ℤ x → pos 0 ≤ℤ y → pos 0 ≤ℤ (x +ℤ y)
    least x y h k = omega (arith, ints)

    nought : (x y : ℤ) → x ≡ pos 0 → y ≡ pos 0 → pos n *ℤ x +ℤ y ≡ pos 0
    nought x y e f = rw (e, f) (same_by (num (pos n) ⊗ num (pos 0) ⊕ num (pos 0)) (num (pos 0)) (omega arith))

    says : (o : Op) (x y : ℤ) → Says (weak_op o) x → Says o y → Says o (pos n *ℤ x +ℤ y)
    says Over x y a b = over (pos n *ℤ x) y (product_at_least (pos n) x (omega (arith, ints)) a) b
    says AtLeast x y a b = least (pos n *ℤ x) y (product_at_least (pos n) x (omega (arith, ints)) a) b
    says Zero x y a b = nought x y a b

-- a value that stays at least 0 with any number of q is at least 0 at q
settled : (x y : ℤ) → ((n : ℕ) → pos 0 ≤ℤ (pos n *ℤ x +ℤ y)) → pos 0 ≤ℤ x
settled (pos x) y h = omega (arith, ints)
settled (negsuc x) y h = absurd (down x y (unsigned_abs y + 1) (h (unsigned_abs y + 1)))
  where
    down : (x : ℕ) (y : ℤ) (n : ℕ) → pos 0 ≤ℤ (pos (unsigned_abs y + 1) *ℤ negsuc x +ℤ y) → ⊥
    down x y n h = omega (arith, ints)

pub below_closed : (c : Cell) (q : Point) (f : Way) (e : ℤ) → HasPoint c → ((p : Point) → InCell c p → IsBelow f e (corner_at p))
    → InCell (weak_of c) q → IsBelow f e (corner_at q)
below_closed c q f e some all a =
    let p = some.0 in
    let at : (n : ℕ) → pos 0 ≤ℤ (pos n *ℤ (far f (corner_at q) -ℤ e *ℤ pos q.w) +ℤ (far f (corner_at p) -ℤ e *ℤ pos p.w)) =
    λ n. subst (λ z. pos 0 ≤ℤ z) (sum_is n p) (apart _ _ (all (mixture n q p) (holds_mixed c n q p a some.1))) in
    back (e *ℤ pos q.w) (far f (corner_at q)) (settled _ _ at)
  where
    apart : (x y : ℤ) → x ≤ℤ y → pos 0 ≤ℤ (y -ℤ x)
    apart x y h = omega (arith, ints)

    back : (x y : ℤ) → pos 0 ≤ℤ (y -ℤ x) → x ≤ℤ y
    back x y h = omega (arith, ints)

    sum_is : (n : ℕ) (p : Point) → (f.x *ℤ (pos n *ℤ q.x +ℤ p.x) +ℤ f.y *ℤ (pos n *ℤ q.y +ℤ p.y)) -ℤ e *ℤ pos (n * q.w + p.w)
        ≡ pos n *ℤ ((f.x *ℤ q.x +ℤ f.y *ℤ q.y) -ℤ e *ℤ pos q.w) +ℤ ((f.x *ℤ p.x +ℤ f.y *ℤ p.y) -ℤ e *ℤ pos p.w)
    sum_is n p =
        same_by ((num f.x ⊗ (num (pos n) ⊗ num q.x ⊕ num p.x) ⊕ num f.y ⊗ (num (pos n) ⊗ num q.y ⊕ num p.y)) ⊖ num e ⊗ num
        (pos (n * q.w + p.w))) (num (pos n) ⊗ ((num f.x ⊗ num q.x ⊕ num f.y ⊗ num q.y) ⊖ num e ⊗ num (pos q.w)) ⊕
        ((num f.x ⊗ num p.x ⊕ num f.y ⊗ num p.y) ⊖ num e ⊗ num (pos p.w))) (omega arith)

-- ---- rectangles

abbrev rightwards : Way
rightwards = record { x = pos 1; y = pos 0 }

abbrev leftwards : Way
leftwards = record { x = negsuc 0; y = pos 0 }

abbrev upwards : Way
upwards = record { x = pos 0; y = pos 1 }

abbrev downwards : Way
downwards = record { x = pos 0; y = negsuc 0 }

left_is : (r : Rectangle) (p : Point) → ((r.x0 *ℤ pos p.w) ≤ℤ p.x) ↔ IsBelow rightwards r.x0 (corner_at p)
left_is r p = (λ h. omega (arith, ints), λ h. omega (arith, ints))

turned_sides : (a x w f : ℤ) → f ≡ neg_ℤ x → (x ≤ℤ (a *ℤ w)) ↔ ((neg_ℤ a *ℤ w) ≤ℤ f)
turned_sides a x w f e =
    let m : neg_ℤ a *ℤ w ≡ neg_ℤ (a *ℤ w) = same_by (neg (num a) ⊗ num w) (neg (num a ⊗ num w)) (omega arith) in
    rw (m, e) (forth x (a *ℤ w), back x (a *ℤ w))
  where
    forth : (x y : ℤ) → x ≤ℤ y → neg_ℤ y ≤ℤ neg_ℤ x
    forth x y h = omega (arith, ints)

    back : (x y : ℤ) → neg_ℤ y ≤ℤ neg_ℤ x → x ≤ℤ y
    back x y h = omega (arith, ints)

leftwards_far : (p : Point) → far leftwards (corner_at p) ≡ neg_ℤ p.x
leftwards_far p = same_by (num (negsuc 0) ⊗ num p.x ⊕ num (pos 0) ⊗ num p.y) (neg (num p.x)) (omega arith)

downwards_far : (p : Point) → far downwards (corner_at p) ≡ neg_ℤ p.y
downwards_far p = same_by (num (pos 0) ⊗ num p.x ⊕ num (negsuc 0) ⊗ num p.y) (neg (num p.y)) (omega arith)

right_is : (r : Rectangle) (p : Point) → (p.x ≤ℤ (r.x1 *ℤ pos p.w)) ↔ IsBelow leftwards (neg_ℤ r.x1) (corner_at p)
right_is r p = turned_sides r.x1 p.x (pos p.w) (far leftwards (corner_at p)) (leftwards_far p)

below_is : (r : Rectangle) (p : Point) → ((r.y0 *ℤ pos p.w) ≤ℤ p.y) ↔ IsBelow upwards r.y0 (corner_at p)
below_is r p = (λ h. omega (arith, ints), λ h. omega (arith, ints))

above_is : (r : Rectangle) (p : Point) → (p.y ≤ℤ (r.y1 *ℤ pos p.w)) ↔ IsBelow downwards (neg_ℤ r.y1) (corner_at p)
above_is r p = turned_sides r.y1 p.y (pos p.w) (far downwards (corner_at p)) (downwards_far p)

-- a rectangle holds the corners of a cell just where it holds the cell
pub corners_hold : (c : Cell) (s : Rectangle) → HasPoint c → IsOnGrid c → ((q : Point) → IsCorner c q → RectHolds s q)
    ↔ ((p : Point) → InCell c p → RectHolds s p)
corners_hold c s some grid = (
  λ h p i.
      let a = corner_below c p rightwards (λ z. cc z.0) grid i in
      let b = corner_below c p leftwards (λ z. cc z.0) grid i in
      let d = corner_below c p upwards (λ z. cc z.1) grid i in
      let e = corner_below c p downwards (λ z. cc z.1) grid i in record {
        left = (left_is s p).1 (a.below s.x0 ((left_is s a.q).0 (h a.q a.corner).left));
        right = (right_is s p).1 (b.below (neg_ℤ s.x1) ((right_is s b.q).0 (h b.q b.corner).right));
        below = (below_is s p).1 (d.below s.y0 ((below_is s d.q).0 (h d.q d.corner).below));
        above = (above_is s p).1 (e.below (neg_ℤ s.y1) ((above_is s e.q).0 (h e.q e.corner).above));
      },
  λ h q k. record {
    left = (left_is s q).1 (below_closed c q rightwards s.x0 some (λ p i. (left_is s p).0 (h p i).left) k.closed);
    right = (right_is s q).1 (below_closed c q leftwards (neg_ℤ s.x1) some (λ p i. (right_is s p).0 (h p i).right) k.closed);
    below = (below_is s q).1 (below_closed c q upwards s.y0 some (λ p i. (below_is s p).0 (h p i).below) k.closed);
    above = (above_is s q).1 (below_closed c q downwards (neg_ℤ s.y1) some (λ p i. (above_is s p).0 (h p i).above) k.closed);
  },
)

-- the least frame of a cell is the least rectangle round its corners
pub frame_is : (c : Cell) (r : Rectangle) → HasPoint c → IsOnGrid c → IsLeastFrame r (c ∷ []) → IsLeastRound r (IsCorner c)
frame_is c r some grid f = record {
  holds = (corners_hold c r some grid).1 (λ p i. f.holds p (inl i));
  least = λ s h. f.least s (λ p i. elim i [ inl a ↦ (corners_hold c s some grid).0 h p a | inr b ↦ absurd b ]);
}

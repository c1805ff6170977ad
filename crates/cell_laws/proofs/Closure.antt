-- A weakened cell holds exactly the points with points of the cell round them at every distance.
use Rattle.std.proofs.Common.{◌≡◌, ◌↔◌, inl, inr, ℕ, ◌+◌, ◌*◌, ◌<◌, ◌≤◌, List, [], ◌∷◌, ℤ, pos, negsuc, suc, ◌+ℤ◌, ◌-ℤ◌, ◌*ℤ◌, neg_ℤ}
use Rattle.std.proofs.Common.{◌≤ℤ◌, ◌<ℤ◌, arith, refl, sym, subst, ap, unsigned_abs}
use Rattle.std.proofs.lemmas.Int.{ints, by_lt_z}
use Rattle.std.proofs.Math.Nat.{mul-pos, mul-le-mul_left, mul-le-mul_right, lt_of_mul-lt-mul_left, lt_of_mul-lt-mul_right}
use lib.Signed.{clash_ℤ}
use borrow.Author.Differences.{up, down}
use Rattle.plane_terms.specs.Point.{Point, IsNear, right_by, up_by}
use Rattle.plane_terms.specs.HalfPlane.{HalfPlane, Holds, Says, value_at, weak, weak_op}
use Rattle.plane_terms.specs.declared.op.Op.{Op}
use Rattle.plane_terms.specs.declared.op.Op.TheVariants.{Over, AtLeast, Zero}
use Rattle.plane_terms.specs.Cell.{Cell, InCell, InCells, HasPoint, weak_of}
use Rattle.plane_terms.specs.Lists.{SomeOf}
use Rattle.number_laws.proofs.Ring.{num, neg, ◌⊕◌, ◌⊖◌, ◌⊗◌, same_by, le_by, le_read, lt_read, lt_by, same_read}
use Rattle.number_laws.proofs.Order.{product_at_least}

-- ---- a point moved a little toward another one

-- the point n * p + q, in the coordinates of triples
abbrev toward : ℕ → Point → Point → Point
toward n p q = record { x = pos n *ℤ p.x +ℤ q.x; y = pos n *ℤ p.y +ℤ q.y; w = n * p.w + q.w; positive = omega (arith, q.positive) }

value_toward : (h : HalfPlane) (n : ℕ) (p q : Point) → value_at h (toward n p q) ≡ pos n *ℤ value_at h p +ℤ value_at h q
value_toward h n p q =
    same_by (num h.a ⊗ (num (pos n) ⊗ num p.x ⊕ num q.x) ⊕ num h.b ⊗ (num (pos n) ⊗ num p.y ⊕ num q.y) ⊕ num h.c ⊗ num
    (pos (n * p.w + q.w))) (num (pos n) ⊗ (num h.a ⊗ num p.x ⊕ num h.b ⊗ num p.y ⊕ num h.c ⊗ num (pos p.w)) ⊕
    (num h.a ⊗ num q.x ⊕ num h.b ⊗ num q.y ⊕ num h.c ⊗ num (pos q.w))) (omega arith)

says_sum : (o : Op) (u v : ℤ) → Says (weak_op o) u → Says o v → Says o (u +ℤ v)
says_sum Over u v h k = omega (arith, ints)
says_sum AtLeast u v h k = omega (arith, ints)
says_sum Zero u v h k = omega (arith, ints)

says_scaled : (o : Op) (n : ℕ) (u : ℤ) → Says (weak_op o) u → Says (weak_op o) (pos n *ℤ u)
says_scaled Over n u h = product_at_least (pos n) u (omega (arith, ints)) h
says_scaled AtLeast n u h = product_at_least (pos n) u (omega (arith, ints)) h
says_scaled Zero n u h = subst (λ z. pos n *ℤ z ≡ pos 0) (sym h) (omega (arith, ints))

toward_holds : (h : HalfPlane) (n : ℕ) (p q : Point) → Holds (weak h) p → Holds h q → Holds h (toward n p q)
toward_holds h n p q a b =
    subst (Says h.op) (sym (value_toward h n p q)) (says_sum h.op _ _ (says_scaled h.op n _ a) b)

apart_toward : (n : ℕ) (x y : ℤ) (w v : ℕ) → (pos n *ℤ x +ℤ y) *ℤ pos w -ℤ x *ℤ pos (n * w + v) ≡ y *ℤ pos w -ℤ x *ℤ pos v
apart_toward n x y w v =
    same_by ((num (pos n) ⊗ num x ⊕ num y) ⊗ num (pos w) ⊖ num x ⊗ num (pos (n * w + v))) (num y ⊗ num (pos w) ⊖ num x ⊗ num (pos v))
    (omega arith)

apart_back : (n : ℕ) (x y : ℤ) (w v : ℕ) → x *ℤ pos (n * w + v) -ℤ (pos n *ℤ x +ℤ y) *ℤ pos w ≡ x *ℤ pos v -ℤ y *ℤ pos w
apart_back n x y w v =
    same_by (num x ⊗ num (pos (n * w + v)) ⊖ (num (pos n) ⊗ num x ⊕ num y) ⊗ num (pos w)) (num x ⊗ num (pos v) ⊖ num y ⊗ num (pos w))
    (omega arith)

below_abs : (d : ℤ) → d ≤ℤ pos (unsigned_abs d)
below_abs d = omega (arith, ints)

-- a difference is small against a large denominator
small_apart : (k n : ℕ) (d : ℤ) (w v : ℕ) → 0 < w → 0 < v → k * unsigned_abs d ≤ n → (pos k *ℤ d) <ℤ pos (w * (n * w + v))
small_apart k n d w v p q h =
    let a : (pos k *ℤ d) ≤ℤ pos (k * unsigned_abs d) = le_by (num (pos k) ⊗ num d) (num (pos (k * unsigned_abs d)))
    (omega (arith, mul-le-mul_left k (le_read (num d) (num (pos (unsigned_abs d))) (below_abs d)))) in
    let b : n * 1 ≤ n * (w * w) = mul-le-mul_left n (mul-pos p p) in
    let c : 0 < w * v = mul-pos p q in
    omega (arith, ints, a, b, c)

abs_turned : (x y : ℤ) (w v : ℕ) → unsigned_abs (x *ℤ pos v -ℤ y *ℤ pos w) ≡ unsigned_abs (y *ℤ pos w -ℤ x *ℤ pos v)
abs_turned x y w v = omega (arith, ints)

turned_product : (k : ℕ) (x : ℤ) → pos k *ℤ x ≡ x *ℤ pos k
turned_product k x = same_by (num (pos k) ⊗ num x) (num x ⊗ num (pos k)) (omega arith)

round_toward : (k n : ℕ) (p q : Point) → k * unsigned_abs (right_by p q) ≤ n → k * unsigned_abs (up_by p q) ≤ n
    → IsNear k p (toward n p q)
round_toward k n p q h g = record {
  right = rw (apart_toward n p.x q.x p.w q.w, ← turned_product k (right_by p q)) (small_apart k n _ p.w q.w p.positive q.positive h);
  left = rw (apart_back n p.x q.x p.w q.w, ← turned_product k (right_by q p))
      (small_apart k n _ p.w q.w p.positive q.positive (subst (λ (z : ℕ). k * z ≤ n) (sym (abs_turned p.x q.x p.w q.w)) h));
  up = rw (apart_toward n p.y q.y p.w q.w, ← turned_product k (up_by p q)) (small_apart k n _ p.w q.w p.positive q.positive g);
  down = rw (apart_back n p.y q.y p.w q.w, ← turned_product k (up_by q p))
      (small_apart k n _ p.w q.w p.positive q.positive (subst (λ (z : ℕ). k * z ≤ n) (sym (abs_turned p.y q.y p.w q.w)) g));
}

-- near every point of the weakened cell there are points of the cell
toward_in : (c : Cell) (n : ℕ) (p q : Point) → InCell (weak_of c) p → InCell c q → InCell c (toward n p q)
toward_in [] n p q a b = tt
toward_in (h ∷ hs) n p q a b = (toward_holds h n p q a.0 b.0, toward_in hs n p q a.1 b.1)

reached : (c : Cell) (q p : Point) → InCell c q → InCell (weak_of c) p → (k : ℕ) → (r : Point) × InCell c r × IsNear k p r
reached c q p inside closed k =
    let n = k * unsigned_abs (right_by p q) + k * unsigned_abs (up_by p q) in
    (toward n p q, toward_in c n p q closed inside, round_toward k n p q (omega arith) (omega arith))

-- ---- the other way: a value that is negative stays so nearby

factor_bound : (a d : ℤ) (k m : ℕ) → (pos k *ℤ d) <ℤ pos m → (pos k *ℤ neg_ℤ d) <ℤ pos m → (pos k *ℤ (a *ℤ d)) ≤ℤ pos (unsigned_abs a * m)
factor_bound (pos a) d k m h g =
    le_by (num (pos k) ⊗ (num (pos a) ⊗ num d)) (num (pos (a * m)))
    (omega (arith, mul-le-mul_left a (le_read (num (pos k) ⊗ num d) (num (pos m)) (weaker _ _ h))))
  where
    weaker : (x y : ℤ) → x <ℤ y → x ≤ℤ y
    weaker x y h = omega (arith, ints)
factor_bound (negsuc a) d k m h g =
    le_by (num (pos k) ⊗ (num (negsuc a) ⊗ num d)) (num (pos (suc a * m)))
    (omega (arith, mul-le-mul_left (suc a) (le_read (num (pos k) ⊗ neg (num d)) (num (pos m)) (weaker _ _ g))))
  where
    weaker : (x y : ℤ) → x <ℤ y → x ≤ℤ y
    weaker x y h = omega (arith, ints)

value_near : (a b c : ℤ) (p q : Point) → (a *ℤ q.x +ℤ b *ℤ q.y +ℤ c *ℤ pos q.w) *ℤ pos p.w
    ≡ (a *ℤ p.x +ℤ b *ℤ p.y +ℤ c *ℤ pos p.w) *ℤ pos q.w +ℤ a *ℤ right_by p q +ℤ b *ℤ up_by p q
value_near a b c p q =
    same_by ((num a ⊗ num q.x ⊕ num b ⊗ num q.y ⊕ num c ⊗ num (pos q.w)) ⊗ num (pos p.w))
    ((num a ⊗ num p.x ⊕ num b ⊗ num p.y ⊕ num c ⊗ num (pos p.w)) ⊗ num (pos q.w) ⊕ num a ⊗
    (num q.x ⊗ num (pos p.w) ⊖ num p.x ⊗ num (pos q.w)) ⊕ num b ⊗ (num q.y ⊗ num (pos p.w) ⊖ num p.y ⊗ num (pos q.w))) (omega arith)

turned_apart : (x y : ℤ) (w v : ℕ) → neg_ℤ (y *ℤ pos w -ℤ x *ℤ pos v) ≡ x *ℤ pos v -ℤ y *ℤ pos w
turned_apart x y w v = same_by (neg (num y ⊗ num (pos w) ⊖ num x ⊗ num (pos v))) (num x ⊗ num (pos v) ⊖ num y ⊗ num (pos w)) (omega arith)

-- how near a point has to be for a half with these numbers
abbrev nearness : ℤ → ℤ → ℕ → ℕ
nearness a b w = (unsigned_abs a + unsigned_abs b) * w + 1

-- numbers: k (u w + s + t) is negative where u <= -1, k s <= A w v and so on
clash : (k a b m v : ℕ) (u x y z : ℤ) → k ≡ (a + b) * m + 1 → 0 < v → u <ℤ pos 0 → z ≡ u *ℤ pos v +ℤ x +ℤ y
    → (pos k *ℤ x) ≤ℤ pos (a * (m * v)) → (pos k *ℤ y) ≤ℤ pos (b * (m * v)) → z <ℤ pos 0
clash k a b m v u x y z e p h f i j =
    let u1 : up u + 1 ≤ down u = omega (arith, ints) in
    let f1 = mul-le-mul_right (k * v) u1 in
    let f2 = le_read (num (pos k) ⊗ num x) (num (pos (a * (m * v)))) i in
    let f3 = le_read (num (pos k) ⊗ num y) (num (pos (b * (m * v)))) j in
    let f4 = ap (λ t. k * t) (same_read (num z) (num u ⊗ num (pos v) ⊕ num x ⊕ num y) f) in
    let f5 = ap (λ t. t * v) e in
    let less : k * up z < k * down z = omega (arith, f1, f2, f3, f4, f5) in
    let cut : up z < down z = lt_of_mul-lt-mul_left k less in
    omega (arith, ints)

-- a value below 0 at p is below 0 at each point near enough
value_stays : (a b c : ℤ) (p q : Point) → IsNear (nearness a b p.w) p q → (a *ℤ p.x +ℤ b *ℤ p.y +ℤ c *ℤ pos p.w) <ℤ pos 0
    → (a *ℤ q.x +ℤ b *ℤ q.y +ℤ c *ℤ pos q.w) <ℤ pos 0
value_stays a b c p q r h =
    let k = nearness a b p.w in
    let e = turned_apart p.x q.x p.w q.w in
    let f = turned_apart p.y q.y p.w q.w in
    let g = factor_bound a (right_by p q) k (p.w * q.w) (rw (turned_product k (right_by p q)) r.right)
    (rw (e, turned_product k (right_by q p)) r.left) in
    let i = factor_bound b (up_by p q) k (p.w * q.w) (rw (turned_product k (up_by p q)) r.up)
    (rw (f, turned_product k (up_by q p)) r.down) in
    let z = clash k (unsigned_abs a) (unsigned_abs b) p.w q.w _ _ _ _ refl q.positive h (value_near a b c p q) g i in
    negative_factor (a *ℤ q.x +ℤ b *ℤ q.y +ℤ c *ℤ pos q.w) p.w z
  where
    negative_factor : (v : ℤ) (w : ℕ) → (v *ℤ pos w) <ℤ pos 0 → v <ℤ pos 0
    negative_factor v w h =
        let l = lt_read (num v ⊗ num (pos w)) (num (pos 0)) h in
        let m : up v * w < down v * w = omega (arith, l) in
        let n : up v < down v = lt_of_mul-lt-mul_right w m in
        omega (arith, ints)

-- ---- one distance for all
near_one : (a b c : ℤ) (p q : Point) → IsNear (nearness a b p.w) p q → pos 0 ≤ℤ (a *ℤ q.x +ℤ b *ℤ q.y +ℤ c *ℤ pos q.w)
    → pos 0 ≤ℤ (a *ℤ p.x +ℤ b *ℤ p.y +ℤ c *ℤ pos p.w)
near_one a b c p q r h =
    by_lt_z (a *ℤ p.x +ℤ b *ℤ p.y +ℤ c *ℤ pos p.w) (pos 0) (λ less. absurd (clash_ℤ (value_stays a b c p q r less) h)) (λ le. le)

less_scaled : (k m n : ℕ) (d : ℤ) → k ≤ m → 0 < n → (d *ℤ pos m) <ℤ pos n → (d *ℤ pos k) <ℤ pos n
less_scaled k m n (pos d) l o h =
    let a : d * k ≤ d * m = mul-le-mul_left d l in
    let b = lt_read (num (pos d) ⊗ num (pos m)) (num (pos n)) h in
    lt_by (num (pos d) ⊗ num (pos k)) (num (pos n)) (omega (arith, a, b))
less_scaled k m n (negsuc d) l o h = lt_by (num (negsuc d) ⊗ num (pos k)) (num (pos n)) (omega (arith, o))

-- what is nearer is near
pub near_weaker : (k m : ℕ) (p q : Point) → k ≤ m → IsNear m p q → IsNear k p q
near_weaker k m p q l n =
    let o = mul-pos p.positive q.positive in
    record {
      right = less_scaled k m (p.w * q.w) (right_by p q) l o n.right;
      left = less_scaled k m (p.w * q.w)
          (right_by q p) l o n.left;
      up = less_scaled k m (p.w * q.w) (up_by p q) l o n.up;
      down = less_scaled k m (p.w * q.w)
          (up_by q p) l o n.down;
    }

abbrev pub near_half : HalfPlane → Point → ℕ
near_half h p = nearness h.a h.b p.w + nearness (neg_ℤ h.a) (neg_ℤ h.b) p.w

half_at : (h : HalfPlane) (p q : Point) → IsNear (near_half h p) p q → Holds h q → Holds (weak h) p
half_at h p q n = by_op h.a h.b h.c h.op p q n
  where
    negate : (a b c : ℤ) (q : Point) → neg_ℤ a *ℤ q.x +ℤ neg_ℤ b *ℤ q.y +ℤ neg_ℤ c *ℤ pos q.w
        ≡ neg_ℤ (a *ℤ q.x +ℤ b *ℤ q.y +ℤ c *ℤ pos q.w)
    negate a b c q = same_by (neg (num a) ⊗ num q.x ⊕ neg (num b) ⊗ num q.y ⊕ neg (num c) ⊗ num (pos q.w))
        (neg (num a ⊗ num q.x ⊕ num b ⊗ num q.y ⊕ num c ⊗ num (pos q.w))) (omega arith)

    weak_over : (v : ℤ) → pos 0 <ℤ v → pos 0 ≤ℤ v
    weak_over v h = omega (arith, ints)

    zero_over : (v : ℤ) → v ≡ pos 0 → pos 0 ≤ℤ v
    zero_over v h = omega (arith, ints)

    zero_under : (v : ℤ) → v ≡ pos 0 → pos 0 ≤ℤ neg_ℤ v
    zero_under v h = omega (arith, ints)

    both_zero : (v : ℤ) → pos 0 ≤ℤ v → pos 0 ≤ℤ neg_ℤ v → v ≡ pos 0
    both_zero v h k = omega (arith, ints)

    first : (a b : ℤ) (p q : Point) → IsNear (nearness a b p.w + nearness (neg_ℤ a) (neg_ℤ b) p.w) p q → IsNear (nearness a b p.w) p q
    first a b p q n = near_weaker (nearness a b p.w) _ p q (omega arith) n

    other : (a b : ℤ) (p q : Point) → IsNear (nearness a b p.w + nearness (neg_ℤ a) (neg_ℤ b) p.w) p q
        → IsNear (nearness (neg_ℤ a) (neg_ℤ b) p.w) p q
    other a b p q n = near_weaker (nearness (neg_ℤ a) (neg_ℤ b) p.w) _ p q (omega arith) n

    by_op : (a b c : ℤ) (o : Op) (p q : Point) → IsNear (nearness a b p.w + nearness (neg_ℤ a) (neg_ℤ b) p.w) p q
        → Holds (record { a = a; b = b; c = c; op = o }) q → Says (weak_op o) (a *ℤ p.x +ℤ b *ℤ p.y +ℤ c *ℤ pos p.w)
    by_op a b c Over p q n h = near_one a b c p q (first a b p q n) (weak_over _ h)
    by_op a b c AtLeast p q n h = near_one a b c p q (first a b p q n) h
    by_op a b c Zero p q n h =
        both_zero _ (near_one a b c p q (first a b p q n) (zero_over _ h))
        (rw (← negate a b c p) (near_one (neg_ℤ a) (neg_ℤ b) (neg_ℤ c) p q (other a b p q n) (rw (negate a b c q) (zero_under _ h))))

-- a half-plane that holds at points near p at every distance holds weakly at p
limit_holds : (h : HalfPlane) (p : Point) → ((k : ℕ) → 1 ≤ k → (q : Point) × Holds h q × IsNear k p q) → Holds (weak h) p
limit_holds h p f = let q = f (near_half h p) (omega arith) in half_at h p q.0 q.2 q.1

limit_in : (c : Cell) (p : Point) → ((k : ℕ) → 1 ≤ k → (q : Point) × InCell c q × IsNear k p q) → InCell (weak_of c) p
limit_in [] p f = tt
limit_in (h ∷ hs) p f = (
  limit_holds h p (λ k j. let q = f k j in (q.0, q.1.0, q.2)),
  limit_in hs p
      (λ k j. let q = f k j in (q.0, q.1.1, q.2)),
)

pub closure : (c : Cell) → HasPoint c → (p : Point) → InCell (weak_of c) p ↔ ((k : ℕ) → 1 ≤ k → (q : Point) × InCell c q × IsNear k p q)
closure c some p = (λ a k l. reached c some.0 p some.1 a k, limit_in c p)

-- ---- of a list of cells
abbrev pub near_cell : Cell → Point → ℕ
near_cell [] p = 1
near_cell (h ∷ hs) p = near_half h p + near_cell hs p

cell_at : (c : Cell) (p q : Point) → IsNear (near_cell c p) p q → InCell c q → InCell (weak_of c) p
cell_at [] p q n i = tt
cell_at (h ∷ hs) p q n i = (
  half_at h p q (near_weaker (near_half h p) _ p q (omega arith) n) i.0,
  cell_at hs p q
      (near_weaker (near_cell hs p) _ p q (omega arith) n) i.1,
)

abbrev pub near_cells : List Cell → Point → ℕ
near_cells [] p = 1
near_cells (c ∷ cs) p = near_cell c p + near_cells cs p

-- one point of the cells near enough to p, and p is in a weakened cell
pub cells_at : (cs : List Cell) (p q : Point) → IsNear (near_cells cs p) p q → InCells cs q → SomeOf (λ c. InCell (weak_of c) p) cs
cells_at [] p q n i = i
cells_at (c ∷ cs) p q n (inl i) = inl (cell_at c p q (near_weaker (near_cell c p) _ p q (omega arith) n) i)
cells_at (c ∷ cs) p q n (inr i) = inr (cells_at cs p q (near_weaker (near_cells cs p) _ p q (omega arith) n) i)

pub near_cells-some : (cs : List Cell) (p : Point) → 1 ≤ near_cells cs p
near_cells-some [] p = omega arith
near_cells-some (c ∷ cs) p = omega (arith, near_cells-some cs p)

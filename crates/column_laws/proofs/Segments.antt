-- Segments by their lines, and the order of two segments of a column.
use Rattle.std.proofs.Common.{◌≡◌, ℕ, ℤ, pos, ◌+ℤ◌, ◌-ℤ◌, ◌*ℤ◌, neg_ℤ, ◌≤ℤ◌, ◌<ℤ◌, arith, sym, refl, ◌⊎◌, inl, inr, ◌∙◌, true, false, lit<}
use Rattle.std.proofs.lemmas.Int.{ints}
use Rattle.std.specs.Int.RustNames.{int_le}
use Rattle.plane_terms.specs.Point.{Point}
use Rattle.plane_terms.specs.HalfPlane.{HalfPlane, value_at}
use Rattle.plane_terms.specs.Segment.{Segment, cross, left_of, IsBetween, OnSegment, IsEndOf, MeetAtEnds}
use Rattle.plane_terms.specs.Columns.{gap_at, is_lower}
use Rattle.number_laws.proofs.Ring.{num, neg, ◌⊕◌, ◌⊖◌, ◌⊗◌, same_by, le_by, le_read, same_read}
use Rattle.cell_laws.proofs.HalfPlanes.{left_value}
use Rattle.column_laws.proofs.Signs.{most_scaled}
use Rattle.number_laws.proofs.Order.{product_at_least, least_unscaled, natural, scaled_le, cases_order_ℤ}
use Rattle.column_laws.specs.Slots.{IsAcross}
use Rattle.cell_laws.proofs.LinePoints.{point_on, point_on-is}
use Rattle.column_laws.proofs.Lines.{IsLower, IsWithin, MeetWithin, one_order, point_on-other, point_on-within}

-- a point of the line of a segment, across from it, is on it
along_by : (lx ly hx hy x y : ℤ) (w : ℕ) → lx <ℤ hx → (hx -ℤ lx) *ℤ (y -ℤ ly *ℤ pos w) -ℤ (hy -ℤ ly) *ℤ (x -ℤ lx *ℤ pos w) ≡ pos 0
    → (lx *ℤ pos w) ≤ℤ x → x ≤ℤ (hx *ℤ pos w) → (ly ≤ℤ hy) ⊎ (hy ≤ℤ ly) → IsBetween (ly *ℤ pos w) (hy *ℤ pos w) y
along_by lx ly hx hy x y w d e l r (inl up') =
    let dx = num hx ⊖ num lx in
    let dy = num hy ⊖ num ly in
    let z = same_read (dx ⊗ (num y ⊖ num ly ⊗ num (pos w)) ⊖ dy ⊗ (num x ⊖ num lx ⊗ num (pos w))) (num (pos 0)) e in
    let a = le_read (num (pos 0)) (dy ⊗ (num x ⊖ num lx ⊗ num (pos w)))
    (product_at_least (hy -ℤ ly) (x -ℤ lx *ℤ pos w) (omega (arith, ints)) (omega (arith, ints))) in
    let b = le_read (num (pos 0)) (dy ⊗ (num hx ⊗ num (pos w) ⊖ num x))
    (product_at_least (hy -ℤ ly) (hx *ℤ pos w -ℤ x) (omega (arith, ints)) (omega (arith, ints))) in
    let low = least_unscaled (hx -ℤ lx) (y -ℤ ly *ℤ pos w) (omega (arith, ints))
    (le_by (num (pos 0)) (dx ⊗ (num y ⊖ num ly ⊗ num (pos w))) (omega (arith, z, a))) in
    let high = least_unscaled (hx -ℤ lx) (hy *ℤ pos w -ℤ y) (omega (arith, ints))
    (le_by (num (pos 0)) (dx ⊗ (num hy ⊗ num (pos w) ⊖ num y)) (omega (arith, z, b))) in
    inl (omega (arith, ints, low), omega (arith, ints, high))
along_by lx ly hx hy x y w d e l r (inr down') =
    let dx = num hx ⊖ num lx in
    let dy = num hy ⊖ num ly in
    let z = same_read (dx ⊗ (num y ⊖ num ly ⊗ num (pos w)) ⊖ dy ⊗ (num x ⊖ num lx ⊗ num (pos w))) (num (pos 0)) e in
    let a = le_read (dy ⊗ (num x ⊖ num lx ⊗ num (pos w))) (num (pos 0)) (most_scaled (hy -ℤ ly) (x -ℤ lx *ℤ pos w) (omega (arith, ints))
    (omega (arith, ints))) in
    let b = le_read (dy ⊗ (num hx ⊗ num (pos w) ⊖ num x)) (num (pos 0)) (most_scaled (hy -ℤ ly) (hx *ℤ pos w -ℤ x) (omega (arith, ints))
    (omega (arith, ints))) in
    let high = least_unscaled (hx -ℤ lx) (ly *ℤ pos w -ℤ y) (omega (arith, ints))
    (le_by (num (pos 0)) (dx ⊗ (num ly ⊗ num (pos w) ⊖ num y)) (omega (arith, z, a))) in
    let low = least_unscaled (hx -ℤ lx) (y -ℤ hy *ℤ pos w) (omega (arith, ints))
    (le_by (num (pos 0)) (dx ⊗ (num y ⊖ num hy ⊗ num (pos w))) (omega (arith, z, b))) in
    inr (omega (arith, ints, low), omega (arith, ints, high))

pub one_way : (a b : ℤ) → (a ≤ℤ b) ⊎ (b ≤ℤ a)
one_way a b = elim (cases_order_ℤ b a) [ inl h ↦ inr (omega (arith, ints)) | inr h ↦ inl h ]

pub on_from_line : (s : Segment) (p : Point) → s.lo.x <ℤ s.hi.x → value_at (left_of s) p ≡ pos 0 → IsAcross s.lo.x s.hi.x p
    → OnSegment s p
on_from_line s p d e a =
    let z : cross s p ≡ pos 0 = sym (left_value s p) ∙ e in
    record {
      straight = z;
      across = inl (a.right, a.left);
      along = along_by s.lo.x s.lo.y s.hi.x s.hi.y p.x p.y p.w d z a.right a.left (one_way s.lo.y s.hi.y);
    }

-- the segment goes all the way from x = x0 to x = y0
pub record Spans (x y : ℤ) (s : Segment) : Type 0 where
  pub low : s.lo.x ≤ℤ x
  pub high : y ≤ℤ s.hi.x

pub record Apart (x y : ℤ) (s t : Segment) : Type 0 where
  pub never : ¬ (MeetWithin x y (left_of s) (left_of t))

pub Apart-sym : (x y : ℤ) (s t : Segment) → Apart x y s t → Apart x y t s
Apart-sym x y s t a = record { never = λ m. a.never (record { at = m.at; first = m.second; second = m.first; within = m.within }) }

-- inside the strip no end lies
pub apart_from_ends : (x y : ℤ) (s t : Segment) → x <ℤ y → Spans x y s → Spans x y t → MeetAtEnds s t → Apart x y s t
apart_from_ends x y s t d f g h =
    record {
      never = λ m.
          let p = m.at in
          let on_s = on_from_line s p (wide s f) m.first (across s f p m.within) in
          let on_t = on_from_line t p (wide t g) m.second (across t g p m.within) in
          elim (h.each p on_s on_t) [ inl e ↦ no_end s f p m.within e | inr e ↦ no_end t g p m.within e ];
    }
  where
    wide : (s : Segment) → Spans x y s → s.lo.x <ℤ s.hi.x
    wide s f = omega (arith, ints, f.low, f.high)

    across : (s : Segment) → Spans x y s → (p : Point) → IsWithin x y p → IsAcross s.lo.x s.hi.x p
    across s f p w = record {
      right = omega (arith, ints, scaled_le s.lo.x x p.w f.low, w.right);
      left = omega (arith, ints, scaled_le y s.hi.x p.w f.high, w.left);
    }

    no_end : (s : Segment) → Spans x y s → (p : Point) → IsWithin x y p → IsEndOf s p → ⊥
    no_end s f p w (inl e) = omega (arith, ints, scaled_le s.lo.x x p.w f.low, w.right, e.x)
    no_end s f p w (inr e) = omega (arith, ints, scaled_le y s.hi.x p.w f.high, w.left, e.x)

abbrev pub Lower : ℤ → ℤ → Segment → Segment → Type 0
Lower x y s t = IsLower x y (left_of s) (left_of t)

-- at the middle of the strip
middle_meets : (x y : ℤ) (l m : HalfPlane) → x <ℤ y → pos 0 <ℤ l.b → gap_at l m (x +ℤ y) (pos 2) ≡ pos 0 → MeetWithin x y l m
middle_meets x y l m d pl z =
    let b = natural l.b pl in
    record {
      at = point_on l (x +ℤ y) 2 b.0 (lit< tt) b.1;
      first = point_on-is l (x +ℤ y) 2 b.0 (lit< tt) b.1 b.2;
      second = point_on-other l m (x +ℤ y) 2 b.0 (lit< tt) b.1 b.2 pl z;
      within = point_on-within x y l (x +ℤ y) 2 b.0 (lit< tt) b.1 (omega (arith, ints)) (omega (arith, ints));
    }

gap_swapped : (l m : HalfPlane) (x w : ℤ) → gap_at m l x w ≡ neg_ℤ (gap_at l m x w)
gap_swapped l m x w =
    same_by ((num m.a ⊗ num l.b ⊖ num l.a ⊗ num m.b) ⊗ num x ⊕ (num m.c ⊗ num l.b ⊖ num l.c ⊗ num m.b) ⊗ num w)
    (neg ((num l.a ⊗ num m.b ⊖ num m.a ⊗ num l.b) ⊗ num x ⊕ (num l.c ⊗ num m.b ⊖ num m.c ⊗ num l.b) ⊗ num w))
    (omega arith)

-- the test at the middle decides the order in the whole strip
lines_order : (x y : ℤ) (l m : HalfPlane) → x <ℤ y → pos 0 <ℤ l.b → pos 0 <ℤ m.b → ¬ (MeetWithin x y l m)
    → pos 0 ≤ℤ gap_at l m (x +ℤ y) (pos 2) → IsLower x y l m
lines_order x y l m d pl pm apart h =
    elim (cases_order_ℤ (pos 0) (gap_at l m (x +ℤ y) (pos 2))) [
      | inl k ↦ one_order x y l m (x +ℤ y) (pos 2) pl pm 2 (lit< tt) refl (omega (arith, ints)) (omega (arith, ints)) k apart
      | inr k ↦ absurd (apart (middle_meets x y l m d pl (zero_between (gap_at l m (x +ℤ y) (pos 2)) h k)))
    ]
  where
    zero_between : (v : ℤ) → pos 0 ≤ℤ v → v ≤ℤ pos 0 → v ≡ pos 0
    zero_between v h k = omega (arith, ints)

wide_line : (x y : ℤ) (s : Segment) → x <ℤ y → Spans x y s → pos 0 <ℤ (left_of s).b
wide_line x y s d f = omega (arith, ints, f.low, f.high)

pub lower_from_test : (x y : ℤ) (s t : Segment) → x <ℤ y → Spans x y s → Spans x y t → Apart x y s t → is_lower x y s t ≡ true
    → Lower x y s t
lower_from_test x y s t d f g a e = lines_order x y (left_of s) (left_of t) d (wide_line x y s d f) (wide_line x y t d g) a.never
    (passed (gap_at (left_of s) (left_of t) (x +ℤ y) (pos 2)) e)
  where
    passed : (v : ℤ) → int_le (pos 0) v ≡ true → pos 0 ≤ℤ v
    passed v e = omega (arith, ints)

pub lower_from_failed : (x y : ℤ) (s t : Segment) → x <ℤ y → Spans x y s → Spans x y t → Apart x y s t → is_lower x y s t ≡ false
    → Lower x y t s
lower_from_failed x y s t d f g a e =
    lines_order x y (left_of t) (left_of s) d (wide_line x y t d g) (wide_line x y s d f) (Apart-sym x y s t a).never
    (failed (gap_at (left_of s) (left_of t) (x +ℤ y) (pos 2)) (gap_at (left_of t) (left_of s) (x +ℤ y) (pos 2)) e
    (gap_swapped (left_of s) (left_of t) (x +ℤ y) (pos 2)))
  where
    failed : (u v : ℤ) → int_le (pos 0) u ≡ false → v ≡ neg_ℤ u → pos 0 ≤ℤ v
    failed u v e k = omega (arith, ints)

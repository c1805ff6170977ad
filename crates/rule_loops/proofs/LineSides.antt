-- What is above a segment is above a line that has the segment on its left; what is not above one is not above a line that has it on its
-- right. Of a point inside a polygon some segment runs above or through it, in its column.
use Rattle.std.proofs.Common.{◌≡◌, inl, inr, ℕ, ℤ, pos, ◌+ℤ◌, ◌-ℤ◌, ◌*ℤ◌, ◌≤ℤ◌, ◌<ℤ◌, arith, refl, ap, ◌∙◌, Bool, true, false}
use Rattle.std.specs.Prelude.{◌&&◌, ◌⊎◌}
use Rattle.std.specs.Int.RustNames.{int_le, int_lt}
use Rattle.std.proofs.lemmas.Int.{ints}
use Rattle.std.proofs.lemmas.Bool.{false≢true}
use Rattle.plane_terms.specs.Lists.{SomeOf}
use Rattle.plane_terms.specs.Point.{Point}
use Rattle.plane_terms.specs.Segment.{Segment, IsSegment, cross}
use Rattle.plane_terms.specs.Share.{turn}
use Rattle.plane_terms.specs.Polygon.{counts, IsInside}
use Rattle.plane_terms.specs.declared.kind.Kind.TheVariants as shapes
use Rattle.topology_terms.specs.Feature.{Feature, sides}
use Rattle.number_laws.proofs.Ring.{num, ◌⊕◌, ◌⊖◌, ◌⊗◌, same_by, same_read}
use Rattle.number_laws.proofs.Order.{scaled_le, product_at_least, product_over, over_unscaled, cases_order_ℤ}
use Rattle.column_laws.proofs.Parity.{differ, odd_differ}
use Rattle.column_laws.proofs.Signs.{most_scaled}
use Rattle.rule_laws.proofs.Crossings.{spans, polygon_even, both_tests}
use Rattle.rule_loops.proofs.Neighbours.{some_passes}

-- ---- the two crosses of a point, and the turns of the ends of a segment that spans its column
-- the line t goes dx to the right and dy up, the segment s width to the right and rise up, and from its lower end to the point it is
-- right to the right and up up
crosses : (dx dy width rise right up : ℤ) → width *ℤ (dx *ℤ up -ℤ dy *ℤ right)
    ≡ right *ℤ (dx *ℤ rise -ℤ dy *ℤ width) +ℤ dx *ℤ (width *ℤ up -ℤ rise *ℤ right)
crosses dx dy width rise right up =
    same_by (num width ⊗ (num dx ⊗ num up ⊖ num dy ⊗ num right))
    (num right ⊗ (num dx ⊗ num rise ⊖ num dy ⊗ num width) ⊕ num dx ⊗ (num width ⊗ num up ⊖ num rise ⊗ num right)) (omega arith)

-- from the lower end of s to its upper one
turn_on : (dx dy tx ty lx ly hx hy : ℤ) → dx *ℤ (hy -ℤ ty) -ℤ dy *ℤ (hx -ℤ tx)
    ≡ (dx *ℤ (ly -ℤ ty) -ℤ dy *ℤ (lx -ℤ tx)) +ℤ (dx *ℤ (hy -ℤ ly) -ℤ dy *ℤ (hx -ℤ lx))
turn_on dx dy tx ty lx ly hx hy =
    same_by (num dx ⊗ (num hy ⊖ num ty) ⊖ num dy ⊗ (num hx ⊖ num tx))
    ((num dx ⊗ (num ly ⊖ num ty) ⊖ num dy ⊗ (num lx ⊖ num tx)) ⊕ (num dx ⊗ (num hy ⊖ num ly) ⊖ num dy ⊗ (num hx ⊖ num lx)))
    (omega arith)

-- and to the point
cross_on : (dx dy tx ty lx ly px py : ℤ) (w : ℕ) → dx *ℤ (py -ℤ ty *ℤ pos w) -ℤ dy *ℤ (px -ℤ tx *ℤ pos w)
    ≡ (dx *ℤ (ly -ℤ ty) -ℤ dy *ℤ (lx -ℤ tx)) *ℤ pos w +ℤ (dx *ℤ (py -ℤ ly *ℤ pos w) -ℤ dy *ℤ (px -ℤ lx *ℤ pos w))
cross_on dx dy tx ty lx ly px py w =
    same_by (num dx ⊗ (num py ⊖ num ty ⊗ num (pos w)) ⊖ num dy ⊗ (num px ⊖ num tx ⊗ num (pos w)))
    ((num dx ⊗ (num ly ⊖ num ty) ⊖ num dy ⊗ (num lx ⊖ num tx)) ⊗ num (pos w) ⊕
    (num dx ⊗ (num py ⊖ num ly ⊗ num (pos w)) ⊖ num dy ⊗ (num px ⊖ num lx ⊗ num (pos w)))) (omega arith)

weighed : (width left right w lower more c dx e : ℤ) → left +ℤ right ≡ width *ℤ w → width *ℤ c ≡ right *ℤ more +ℤ dx *ℤ e
    → width *ℤ (lower *ℤ w +ℤ c) ≡ (left *ℤ lower +ℤ right *ℤ (lower +ℤ more)) +ℤ dx *ℤ e
weighed width left right w lower more c dx e h k =
    let whole : (left +ℤ right) *ℤ lower ≡ (width *ℤ w) *ℤ lower = ap (λ z. z *ℤ lower) h in
    let m = same_read ((num left ⊕ num right) ⊗ num lower) (num width ⊗ num w ⊗ num lower) whole in
    let n = same_read (num width ⊗ num c) (num right ⊗ num more ⊕ num dx ⊗ num e) k in
    same_by (num width ⊗ (num lower ⊗ num w ⊕ num c))
    ((num left ⊗ num lower ⊕ num right ⊗ (num lower ⊕ num more)) ⊕ num dx ⊗ num e) (omega (arith, m, n))

-- what the ends of a segment in the column of p are of a line, weighed, and what p is of the segment, make what p is of the line
column_sum : (t s : Segment) (p : Point) → (s.hi.x -ℤ s.lo.x) *ℤ cross t p
    ≡ ((s.hi.x *ℤ pos p.w -ℤ p.x) *ℤ turn t s.lo +ℤ (p.x -ℤ s.lo.x *ℤ pos p.w) *ℤ turn t s.hi) +ℤ (t.hi.x -ℤ t.lo.x) *ℤ cross s p
column_sum t s p =
    let dx = t.hi.x -ℤ t.lo.x in
    let dy = t.hi.y -ℤ t.lo.y in
    let width = s.hi.x -ℤ s.lo.x in
    let rise = s.hi.y -ℤ s.lo.y in
    let right = p.x -ℤ s.lo.x *ℤ pos p.w in
    let up = p.y -ℤ s.lo.y *ℤ pos p.w in
    let left = s.hi.x *ℤ pos p.w -ℤ p.x in
    let both : left +ℤ right ≡ width *ℤ pos p.w = column s.lo.x s.hi.x p.x p.w in
    rw (cross_on dx dy t.lo.x t.lo.y s.lo.x s.lo.y p.x p.y p.w, turn_on dx dy t.lo.x t.lo.y s.lo.x s.lo.y s.hi.x s.hi.y)
    (weighed width left right (pos p.w) (turn t s.lo) (dx *ℤ rise -ℤ dy *ℤ width) (dx *ℤ up -ℤ dy *ℤ right) dx (cross s p) both
    (crosses dx dy width rise right up))
  where
    column : (lx hx px : ℤ) (w : ℕ) → (hx *ℤ pos w -ℤ px) +ℤ (px -ℤ lx *ℤ pos w) ≡ (hx -ℤ lx) *ℤ pos w
    column lx hx px w = same_by ((num hx ⊗ num (pos w) ⊖ num px) ⊕ (num px ⊖ num lx ⊗ num (pos w)))
        ((num hx ⊖ num lx) ⊗ num (pos w)) (omega arith)

-- ---- the sides
-- the column of p is one of the segment's
pub record Spans (s : Segment) (p : Point) : Type 0 where
  pub from : (s.lo.x *ℤ pos p.w) ≤ℤ p.x
  pub to : p.x <ℤ (s.hi.x *ℤ pos p.w)

wide : (s : Segment) (p : Point) → Spans s p → pos 0 <ℤ (s.hi.x -ℤ s.lo.x)
wide s p h = elim (cases_order_ℤ s.lo.x s.hi.x) [
  | inl l ↦ omega (arith, ints, l)
  | inr l ↦ let k = scaled_le s.hi.x s.lo.x p.w l in absurd (omega (arith, ints, h.from, h.to, k))
]

strictly_over : (width v left right a b dx e : ℤ) → pos 0 <ℤ width → pos 0 <ℤ left → pos 0 ≤ℤ right → pos 0 ≤ℤ a → pos 0 ≤ℤ b → pos 0 ≤ℤ dx
    → pos 0 <ℤ e → (pos 0 <ℤ dx) ⊎ (pos 0 <ℤ a) → width *ℤ v ≡ (left *ℤ a +ℤ right *ℤ b) +ℤ dx *ℤ e → pos 0 <ℤ v
strictly_over width v left right a b dx e h l r x y d k (inl o) sum =
    let m = product_at_least left a (omega (arith, ints, l)) x in
    over_unscaled width v h (omega (arith, ints, sum, m, product_at_least right b r y, product_over dx e o k))
strictly_over width v left right a b dx e h l r x y d k (inr o) sum =
    let m = product_at_least dx e d (omega (arith, ints, k)) in
    over_unscaled width v h (omega (arith, ints, sum, product_over left a l o, product_at_least right b r y, m))

not_over : (width v left right a b dx e : ℤ) → pos 0 <ℤ width → pos 0 ≤ℤ left → pos 0 ≤ℤ right → a ≤ℤ pos 0 → b ≤ℤ pos 0 → pos 0 ≤ℤ dx
    → e ≤ℤ pos 0 → width *ℤ v ≡ (left *ℤ a +ℤ right *ℤ b) +ℤ dx *ℤ e → v ≤ℤ pos 0
not_over width v left right a b dx e h l r x y d k sum = elim (cases_order_ℤ (pos 0) v) [
  | inl o ↦ absurd (omega (arith, ints, sum, product_over width v h o, most_scaled a left x l, most_scaled b right y r, most_scaled e dx k d))
  | inr o ↦ o
]

abbrev slopes : Segment → Type 0
slopes t = (t.lo.x <ℤ t.hi.x) ⊎ ((t.lo.x ≡ t.hi.x) × (t.lo.y <ℤ t.hi.y))

rightwards : (t : Segment) → slopes t → pos 0 ≤ℤ (t.hi.x -ℤ t.lo.x)
rightwards t (inl h) = omega (arith, ints, h)
rightwards t (inr h) = omega (arith, ints, h.0)

-- a line that is not upright goes rightwards; of an upright one the lower end of a segment lies left, where the upper end is not right of it
off_upright : (t s : Segment) → pos 0 <ℤ (s.hi.x -ℤ s.lo.x) → pos 0 ≤ℤ turn t s.hi → slopes t
    → (pos 0 <ℤ (t.hi.x -ℤ t.lo.x)) ⊎ (pos 0 <ℤ turn t s.lo)
off_upright t s w b (inl h) = inl (omega (arith, ints, h))
off_upright t s w b (inr h) =
    let flat : t.hi.x -ℤ t.lo.x ≡ pos 0 = omega (arith, ints, h.0) in
    let on = turn_on (t.hi.x -ℤ t.lo.x) (t.hi.y -ℤ t.lo.y) t.lo.x t.lo.y s.lo.x s.lo.y s.hi.x s.hi.y in
    let k = product_over (t.hi.y -ℤ t.lo.y) (s.hi.x -ℤ s.lo.x) (omega (arith, ints, h.1)) w in
    inr (numbers (t.hi.x -ℤ t.lo.x) (s.hi.y -ℤ s.lo.y) (turn t s.lo) (turn t s.hi) ((t.hi.y -ℤ t.lo.y) *ℤ (s.hi.x -ℤ s.lo.x)) flat on k b)
  where
    numbers : (dx rise a b up : ℤ) → dx ≡ pos 0 → b ≡ a +ℤ (dx *ℤ rise -ℤ up) → pos 0 <ℤ up → pos 0 ≤ℤ b → pos 0 <ℤ a
    numbers dx rise a b up flat e k h =
        let z : dx *ℤ rise ≡ pos 0 = rw flat (omega (arith, ints)) in
        omega (arith, ints, z, e, k, h)

-- over a segment that is left of the line, or on it
pub left_over : (t s : Segment) (p : Point) → IsSegment t → Spans s p → pos 0 ≤ℤ turn t s.lo → pos 0 ≤ℤ turn t s.hi → pos 0 <ℤ cross s p
    → pos 0 <ℤ cross t p
left_over t s p o h a b e =
    let w = wide s p h in
    strictly_over (s.hi.x -ℤ s.lo.x) (cross t p) (s.hi.x *ℤ pos p.w -ℤ p.x) (p.x -ℤ s.lo.x *ℤ pos p.w) (turn t s.lo) (turn t s.hi)
    (t.hi.x -ℤ t.lo.x) (cross s p) w (omega (arith, ints, h.to)) (omega (arith, ints, h.from)) a b (rightwards t o.ordered) e
    (off_upright t s w b o.ordered) (column_sum t s p)

-- under a segment that is right of the line, or on it; or on such a segment
pub right_not_over : (t s : Segment) (p : Point) → IsSegment t → Spans s p → turn t s.lo ≤ℤ pos 0 → turn t s.hi ≤ℤ pos 0 → cross s p ≤ℤ pos 0
    → cross t p ≤ℤ pos 0
right_not_over t s p o h a b e =
    not_over (s.hi.x -ℤ s.lo.x) (cross t p) (s.hi.x *ℤ pos p.w -ℤ p.x) (p.x -ℤ s.lo.x *ℤ pos p.w) (turn t s.lo) (turn t s.hi)
    (t.hi.x -ℤ t.lo.x) (cross s p) (wide s p h) (omega (arith, ints, h.to)) (omega (arith, ints, h.from)) a b (rightwards t o.ordered) e
    (column_sum t s p)

-- ---- inside a polygon
not_under : (z : ℤ) → int_lt (pos 0) z ≡ false → z ≤ℤ pos 0
not_under z e = grind (arith, ints)

-- a segment that spans the column and does not count
idle : (s : Segment) (p : Point) → differ (counts s p) (spans p s) ≡ true → Spans s p × (cross s p ≤ℤ pos 0)
unfolding differ
idle s p e =
    let k = first_alone (int_le (s.lo.x *ℤ pos p.w) p.x) (int_lt p.x (s.hi.x *ℤ pos p.w)) (int_lt (pos 0) (cross s p)) e in
    let h = both_tests (s.lo.x *ℤ pos p.w) (s.hi.x *ℤ pos p.w) p.x k.0 in
    (record { from = h.0; to = h.1 }, not_under (cross s p) k.1)
  where
    first_alone : (b c d : Bool) → differ (b && (c && d)) (b && c) ≡ true → (b && c ≡ true) × (d ≡ false)
    first_alone true true true e = absurd (false≢true e)
    first_alone true true false e = (refl, refl)
    first_alone true false d e = absurd (false≢true e)
    first_alone false c d e = absurd (false≢true e)

pub some_idle : (f : Feature) (p : Point) → f.shape.kind ≡ shapes.Polygon → IsInside (sides f) p
    → SomeOf (λ s. differ (counts s p) (spans p s) ≡ true) (sides f)
unfolding differ
some_idle f p e i =
    some_passes (λ s. differ (counts s p) (spans p s)) (sides f)
    (odd_differ (λ s. counts s p) (spans p) (sides f) ∙ rw (i.odd, polygon_even p f.shape e) refl)

-- Gaps: the boundary where open ground comes near at every distance.
--
-- IsOpen f gs q        q is closed neither in f nor in one of gs
-- IsGap f gs p         p is on the boundary of f, and at every distance there is open ground near it
use Rattle.std.proofs.Common.{◌≡◌, ◌↔◌, inl, inr, ℕ, ◌+◌, ◌*◌, ◌<◌, ◌≤◌, ℤ, pos, ◌+ℤ◌, ◌-ℤ◌, ◌*ℤ◌, ◌≤ℤ◌, ◌<ℤ◌, Bool, true, false, List, [], ◌∷◌, map, arith}
use Rattle.std.specs.Prelude.{not, ◌==◌}
use Rattle.std.proofs.lemmas.Int.{ints}
use Rattle.std.proofs.Math.Nat.{mul-le-mul_left}
use Rattle.plane_terms.specs.Lists.{Every, SomeOf}
use Rattle.plane_terms.specs.Point.{Point, IsNear}
use Rattle.plane_terms.specs.Rectangle.{Rectangle, RectHolds, holds_point}
use Rattle.plane_terms.specs.Segment.{Segment, IsSegment, OnSegment}
use Rattle.plane_terms.specs.Cell.{Cell, InCell, InCells, HavePoints, on_segment, box_round, weak_of}
use Rattle.plane_terms.specs.Polygon.{IsInClosure}
use Rattle.plane_terms.specs.declared.kind.Kind.TheVariants as shapes
use Rattle.topology_terms.specs.Feature.{Feature, sides, env}
use Rattle.topology_terms.specs.Cells.{outside}
use Rattle.topology_terms.specs.Plans.{others, open_ground, gap_cells}
use Rattle.number_laws.proofs.Ring.{num, ◌⊕◌, ◌⊖◌, ◌⊗◌, same_by}
use Rattle.number_laws.proofs.Order.{cases_order_ℤ, product_at_least}
use Rattle.cell_laws.proofs.Lists.{some_map}
use Rattle.cell_laws.proofs.Meets.{carve_points, kept_have_points}
use Rattle.cell_laws.proofs.Closure.{closure, near_weaker, near_cells, cells_at, near_cells-some}
use Rattle.cell_laws.proofs.GridLines.{x_over_holds, x_under_holds, y_over_holds, y_under_holds}
use Rattle.cell_laws.proofs.SegmentCells.{on_segment_points}
use Rattle.sound_laws.proofs.Dirts.{bool_cases}
use Rattle.sound_laws.proofs.FeatureLists.{same_handle}
use Rattle.plane_terms.proofs.ListLemmas.{every_filter, every_map}
use Rattle.rule_laws.proofs.Families.{IsFit}
use Rattle.rule_laws.proofs.Lists.{every_unfilter}
use Rattle.rule_laws.proofs.Around.{holds_test, round}
use Rattle.rule_laws.proofs.Alone.{AloneRule, IsOnlyOne}
use Rattle.rule_laws.proofs.Held.{line_held, closure_held}
use Rattle.rule_laws.proofs.Uncovered.{uncovered_points, uncovered_have_points, outside_points, every_mapped, every_same, some_same_of, one_cell}

pub record IsOpen (f : Feature) (gs : List Feature) (q : Point) : Type 0 where
  pub own : ¬ (IsInClosure (sides f) q)
  pub others : Every (λ (g : Feature). ¬ (IsInClosure (sides g) q)) gs

pub record IsGap (f : Feature) (gs : List Feature) (p : Point) : Type 0 where
  pub boundary : SomeOf (λ s. OnSegment s p) (sides f)
  pub near : (k : ℕ) → 1 ≤ k → (q : Point) × IsNear k p q × IsOpen f gs q

-- ---- numbers: x / w before or at c, y / v beyond it
gap_over : (x c y w v : ℤ) → y *ℤ w -ℤ x *ℤ v -ℤ v ≡ (y -ℤ c *ℤ v) *ℤ w +ℤ (c *ℤ w -ℤ x -ℤ pos 1) *ℤ v
gap_over x c y w v =
    same_by (num y ⊗ num w ⊖ num x ⊗ num v ⊖ num v) ((num y ⊖ num c ⊗ num v) ⊗ num w ⊕ (num c ⊗ num w ⊖ num x ⊖ num (pos 1)) ⊗ num v)
    (omega arith)

gap_under : (x c y w v : ℤ) → x *ℤ v -ℤ y *ℤ w -ℤ v ≡ (x -ℤ c *ℤ w -ℤ pos 1) *ℤ v +ℤ (c *ℤ v -ℤ y) *ℤ w
gap_under x c y w v =
    same_by (num x ⊗ num v ⊖ num y ⊗ num w ⊖ num v) ((num x ⊖ num c ⊗ num w ⊖ num (pos 1)) ⊗ num v ⊕ (num c ⊗ num v ⊖ num y) ⊗ num w)
    (omega arith)

-- a difference that is at least v is not below 1 / m of w * v, where m is at least w
too_far : (d : ℤ) (w v m : ℕ) → 0 < v → pos 0 ≤ℤ (d -ℤ pos v) → w ≤ m → (d *ℤ pos m) <ℤ pos (w * v) → ⊥
too_far d w v m o h l n =
    let a = product_at_least (d -ℤ pos v) (pos m) h (omega (arith, ints)) in
    let b : (d -ℤ pos v) *ℤ pos m ≡ d *ℤ pos m -ℤ pos (v * m) =
    same_by ((num d ⊖ num (pos v)) ⊗ num (pos m)) (num d ⊗ num (pos m) ⊖ num (pos (v * m))) (omega arith) in
    let c : v * w ≤ v * m = mul-le-mul_left v l in
    let e : w * v ≤ v * m = omega (arith, c) in
    last (d *ℤ pos m) (w * v) (v * m) ((d -ℤ pos v) *ℤ pos m) a b e n
  where
    last : (z : ℤ) (i j : ℕ) (y : ℤ) → pos 0 ≤ℤ y → y ≡ z -ℤ pos j → i ≤ j → z <ℤ pos i → ⊥
    last z i j y h e l n = omega (arith, ints)

past_over : (x c y : ℤ) (w v m : ℕ) → 0 < v → x <ℤ (c *ℤ pos w) → (c *ℤ pos v) ≤ℤ y → w ≤ m
    → ((y *ℤ pos w -ℤ x *ℤ pos v) *ℤ pos m) <ℤ pos (w * v) → ⊥
past_over x c y w v m o h k l n =
    let a = product_at_least (y -ℤ c *ℤ pos v) (pos w) (omega (arith, ints)) (omega (arith, ints)) in
    let b = product_at_least (c *ℤ pos w -ℤ x -ℤ pos 1) (pos v) (omega (arith, ints)) (omega (arith, ints)) in
    too_far (y *ℤ pos w -ℤ x *ℤ pos v) w v m o (sum _ _ _ (gap_over x c y (pos w) (pos v)) a b) l n
  where
    sum : (z s t : ℤ) → z ≡ s +ℤ t → pos 0 ≤ℤ s → pos 0 ≤ℤ t → pos 0 ≤ℤ z
    sum z s t e h k = omega (arith, ints)

past_under : (x c y : ℤ) (w v m : ℕ) → 0 < v → (c *ℤ pos w) <ℤ x → y ≤ℤ (c *ℤ pos v) → w ≤ m
    → ((x *ℤ pos v -ℤ y *ℤ pos w) *ℤ pos m) <ℤ pos (w * v) → ⊥
past_under x c y w v m o h k l n =
    let a = product_at_least (x -ℤ c *ℤ pos w -ℤ pos 1) (pos v) (omega (arith, ints)) (omega (arith, ints)) in
    let b = product_at_least (c *ℤ pos v -ℤ y) (pos w) (omega (arith, ints)) (omega (arith, ints)) in
    too_far (x *ℤ pos v -ℤ y *ℤ pos w) w v m o (sum _ _ _ (gap_under x c y (pos w) (pos v)) a b) l n
  where
    sum : (z s t : ℤ) → z ≡ s +ℤ t → pos 0 ≤ℤ s → pos 0 ≤ℤ t → pos 0 ≤ℤ z
    sum z s t e h k = omega (arith, ints)

-- a rectangle that does not hold p holds no point near enough to it
near_off : (r : Rectangle) (p q : Point) (m : ℕ) → p.w ≤ m → IsNear m p q → RectHolds r q → RectHolds r p
near_off r p q m l n h = record {
  left = elim (cases_order_ℤ p.x (r.x0 *ℤ pos p.w))
      [ inl o ↦ absurd (past_over p.x r.x0 q.x p.w q.w m q.positive o h.left l n.right) | inr o ↦ o ];
  right = elim (cases_order_ℤ (r.x1 *ℤ pos p.w) p.x)
      [ inl o ↦ absurd (past_under p.x r.x1 q.x p.w q.w m q.positive o h.right l n.left) | inr o ↦ o ];
  below = elim (cases_order_ℤ p.y (r.y0 *ℤ pos p.w))
      [ inl o ↦ absurd (past_over p.y r.y0 q.y p.w q.w m q.positive o h.below l n.up) | inr o ↦ o ];
  above = elim (cases_order_ℤ (r.y1 *ℤ pos p.w) p.y)
      [ inl o ↦ absurd (past_under p.y r.y1 q.y p.w q.w m q.positive o h.above l n.down) | inr o ↦ o ];
}

-- ---- the box: what is less than 1 from a point of the envelope is in it
box_over : (x c y w v : ℤ) → y *ℤ w -ℤ x *ℤ v -ℤ w *ℤ v ≡ (y -ℤ (c +ℤ pos 1) *ℤ v) *ℤ w +ℤ (c *ℤ w -ℤ x) *ℤ v
box_over x c y w v =
    same_by (num y ⊗ num w ⊖ num x ⊗ num v ⊖ num w ⊗ num v)
    ((num y ⊖ (num c ⊕ num (pos 1)) ⊗ num v) ⊗ num w ⊕ (num c ⊗ num w ⊖ num x) ⊗ num v) (omega arith)

box_under : (x c y w v : ℤ) → x *ℤ v -ℤ y *ℤ w -ℤ w *ℤ v ≡ (x -ℤ c *ℤ w) *ℤ v +ℤ ((c -ℤ pos 1) *ℤ v -ℤ y) *ℤ w
box_under x c y w v =
    same_by (num x ⊗ num v ⊖ num y ⊗ num w ⊖ num w ⊗ num v)
    ((num x ⊖ num c ⊗ num w) ⊗ num v ⊕ ((num c ⊖ num (pos 1)) ⊗ num v ⊖ num y) ⊗ num w) (omega arith)

times : (w v : ℕ) → pos w *ℤ pos v ≡ pos (w * v)
times w v = same_by (num (pos w) ⊗ num (pos v)) (num (pos (w * v))) (omega arith)

once : (d : ℤ) → d *ℤ pos 1 ≡ d
once d = omega (arith, ints)

over_box : (x c y : ℤ) (w v : ℕ) → x ≤ℤ (c *ℤ pos w) → ((y *ℤ pos w -ℤ x *ℤ pos v) *ℤ pos 1) <ℤ pos (w * v) → y <ℤ ((c +ℤ pos 1) *ℤ pos v)
over_box x c y w v h n = elim (cases_order_ℤ y ((c +ℤ pos 1) *ℤ pos v)) [
  | inl o ↦ o
  | inr o ↦
      let a = product_at_least (y -ℤ (c +ℤ pos 1) *ℤ pos v) (pos w) (omega (arith, ints)) (omega (arith, ints)) in
      let b = product_at_least (c *ℤ pos w -ℤ x) (pos v) (omega (arith, ints)) (omega (arith, ints)) in
      absurd (last _ _ _ _ _ (box_over x c y (pos w) (pos v)) a b (times w v) (rw (once (y *ℤ pos w -ℤ x *ℤ pos v)) at n))
]
  where
    last : (z s t u : ℤ) (i : ℕ) → z -ℤ u ≡ s +ℤ t → pos 0 ≤ℤ s → pos 0 ≤ℤ t → u ≡ pos i → z <ℤ pos i → ⊥
    last z s t u i e h k m n = omega (arith, ints)

under_box : (x c y : ℤ) (w v : ℕ) → (c *ℤ pos w) ≤ℤ x → ((x *ℤ pos v -ℤ y *ℤ pos w) *ℤ pos 1) <ℤ pos (w * v) → ((c -ℤ pos 1) *ℤ pos v) <ℤ y
under_box x c y w v h n = elim (cases_order_ℤ ((c -ℤ pos 1) *ℤ pos v) y) [
  | inl o ↦ o
  | inr o ↦
      let a = product_at_least (x -ℤ c *ℤ pos w) (pos v) (omega (arith, ints)) (omega (arith, ints)) in
      let b = product_at_least ((c -ℤ pos 1) *ℤ pos v -ℤ y) (pos w) (omega (arith, ints)) (omega (arith, ints)) in
      absurd (last _ _ _ _ _ (box_under x c y (pos w) (pos v)) a b (times w v) (rw (once (x *ℤ pos v -ℤ y *ℤ pos w)) at n))
]
  where
    last : (z s t u : ℤ) (i : ℕ) → z -ℤ u ≡ s +ℤ t → pos 0 ≤ℤ s → pos 0 ≤ℤ t → u ≡ pos i → z <ℤ pos i → ⊥
    last z s t u i e h k m n = omega (arith, ints)

in_box : (r : Rectangle) (p q : Point) → RectHolds r p → IsNear 1 p q → InCell (box_round r) q
in_box r p q h n = (
  (x_over_holds (r.x0 -ℤ pos 1) q).1 (under_box p.x r.x0 q.x p.w q.w h.left n.left),
  (
    (x_under_holds (r.x1 +ℤ pos 1) q).1 (over_box p.x r.x1 q.x p.w q.w h.right n.right),
    (
      (y_over_holds (r.y0 -ℤ pos 1) q).1 (under_box p.y r.y0 q.y p.w q.w h.below n.down),
      ((y_under_holds (r.y1 +ℤ pos 1) q).1 (over_box p.y r.y1 q.y p.w q.w h.above n.up), tt),
    ),
  ),
)

-- ---- open ground
is_other : (a b : ℕ) → not (a == b) ≡ false → a ≡ b
is_other a b t = elim (bool_cases (a == b)) [ inl e ↦ same_handle a b e | inr e ↦ let k : true ≡ false = rw e at t in absurd cc ]

module _ (f : Feature) (gs : List Feature) (u : IsFit shapes.Polygon f) (v : Every (IsFit shapes.Polygon) gs) where
  open_points : (q : Point) → IsOnlyOne f gs → InCells (open_ground f gs) q ↔ (InCell (box_round (env f)) q × IsOpen f gs q)
  open_points q only =
      let other : Feature → Bool = λ (g : Feature). not (g.handle == f.handle) in
      let P : Feature → Type 0 = λ (g : Feature). ¬ (IsInClosure (sides g) q) in
      let x = uncovered_points (box_round (env f) ∷ []) (outside f ∷ map {A = Feature} outside (others f gs)) q in
      let c = one_cell (box_round (env f)) q in
      let o = outside_points f q u in
      let m = every_mapped (λ ds. InCells ds q) outside (others f gs) in
      let e = every_same (IsFit shapes.Polygon) (λ g. InCells (outside g) q) P (λ g w. outside_points g q w) (others f gs)
      (every_filter (IsFit shapes.Polygon) other gs v) in
      let all : P f → Every P (others f gs) → Every P gs =
      λ own k. every_unfilter P other gs
      (every_map (λ (g : Feature). g.handle ≡ f.handle → g ≡ f) (λ (g : Feature). other g ≡ false → P g)
      (λ g i t. let same = i (is_other g.handle f.handle t) in rw same own) gs only) k in (
        (λ h. let y = x.0 h in let own = o.0 y.1.0 in (c.0 y.0, record { own = own; others = all own (e.0 (m.0 y.1.1)) })),
        (λ h. x.1 (c.1 h.0, (o.1 h.1.own, m.1 (e.1 (every_filter P other gs h.1.others))))),
      )

  open_have_points : HavePoints (open_ground f gs)
  open_have_points = uncovered_have_points _ (map {A = Feature} outside (others f gs)) (kept_have_points _)

  reached : (us : List Cell) (p : Point) (k : ℕ) → 1 ≤ k → HavePoints us → SomeOf (λ c. InCell (weak_of c) p) us
      → (q : Point) × IsNear k p q × InCells us q
  reached [] p k l h i = absurd i
  reached (c ∷ us) p k l h (inl i) = let y = (closure c h.0 p).0 i k l in (y.0, y.2, inl y.1)
  reached (c ∷ us) p k l h (inr i) = let y = reached us p k l h.1 i in (y.0, y.1, inr y.2)

  gap_points : (p : Point) → IsOnlyOne f gs → InCells (gap_cells f gs) p ↔ IsGap f gs p
  gap_points p only =
      let us = open_ground f gs in
      let x = carve_points (map {A = Segment} on_segment (sides f)) (map {A = Cell} weak_of us) p in
      let on = some_map (λ c. InCell c p) on_segment (sides f) in
      let each = some_same_of IsSegment (λ s. InCell (on_segment s) p) (λ s. OnSegment s p) (λ s g. on_segment_points s p g)
      (sides f) u.proper in
      let w = some_map (λ c. InCell c p) weak_of us in (
        (λ h.
            let y = x.0 h in
            record {
              boundary = each.0 (on.0 y.0);
              near = λ k l. let z = reached us p k l open_have_points (w.0 y.1) in (z.0, z.1, ((open_points z.0 only).0 z.2).1);
            }),
        (λ h.
            let n = near_cells us p in
            let z = h.near n (near_cells-some us p) in
            let held = line_held f p h.boundary in
            let box = in_box (env f) p z.0 held (near_weaker 1 n p z.0 (near_cells-some us p) z.1) in
            x.1 (on.1 (each.1 h.boundary), w.1 (cells_at us p z.0 z.1 ((open_points z.0 only).1 (box, z.2))))),
      )

-- rule 3
gap_local : (f : Feature) (gs hs : List Feature) (p : Point) → Every (IsFit shapes.Polygon) hs → round p gs ≡ round p hs → IsGap f gs p
    → IsGap f hs p
gap_local f gs hs p v e h = record {
  boundary = h.boundary;
  near = λ k l.
      let m = k + p.w in
      let y = h.near m (omega arith) in
      let P : Feature → Type 0 = λ (g : Feature). ¬ (IsInClosure (sides g) y.0) in
      let kept : Every P (round p hs) = rw e at (every_filter P (λ g. holds_point (env g) p) gs y.2.others) in (
        y.0,
        near_weaker k m p y.0 (omega arith) y.1,
        record {
          own = y.2.own;
          others = every_unfilter P (λ g. holds_point (env g) p) hs
              (every_map (IsFit shapes.Polygon) (λ g. holds_point (env g) p ≡ false → P g) (λ g i t c.
              let n = holds_test (env g) p (near_off (env g) p y.0 m (omega arith) y.1 (closure_held g y.0 i c)) in
              absurd cc) hs v) kept;
        },
      );
}

pub gap_rule : AloneRule shapes.Polygon shapes.Polygon IsGap gap_cells
gap_rule = record {
  held = λ f gs p u h. line_held f p h.boundary;
  local = λ f gs hs p u v w m e h. gap_local f gs hs p w e h;
  exact = λ f gs p u v o. gap_points f gs u v p o;
  some = λ f gs u v. kept_have_points _;
}

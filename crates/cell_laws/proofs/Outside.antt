-- The cells out of a cell, a place, a rectangle hold exactly the points elsewhere.
use Rattle.std.proofs.Common.{◌≡◌, ◌↔◌, ℤ, pos, ◌*ℤ◌, ◌≤ℤ◌, ◌<ℤ◌, neg_ℤ, [], ◌∷◌, ◌++◌, ◌⊎◌, inl, inr, arith, subst, sym, map}
use Rattle.std.proofs.lemmas.Int.{ints}
use Rattle.plane_terms.specs.Lists.{SomeOf}
use Rattle.plane_terms.specs.Point.{Place, Point, IsAt}
use Rattle.plane_terms.specs.Rectangle.{Rectangle, RectHolds}
use Rattle.plane_terms.specs.HalfPlane.{HalfPlane, Holds, Says, value_at, turned, without, without_by}
use Rattle.plane_terms.specs.declared.op.Op.{Op}
use Rattle.plane_terms.specs.declared.op.Op.TheVariants.{Over, AtLeast, Zero}
use Rattle.plane_terms.specs.Cell.{Cell, InCell, InCells, out_from, out_of_cell, out_of_place, out_of_rect, at_place}
use Rattle.number_laws.proofs.Ring.{num, neg, ◌⊕◌, ◌⊗◌, same_by}
use Rattle.number_laws.proofs.Order.{cases_order_ℤ}
use Rattle.cell_laws.proofs.Lists.{all_append, some_append}
use Rattle.cell_laws.proofs.GridLines.{x_over_holds, x_under_holds, y_over_holds, y_under_holds, x_is_holds, y_is_holds}

-- ---- a half-plane, and those that hold where it does not
pub turned_value : (h : HalfPlane) (o : Op) (p : Point) → value_at (turned h o) p ≡ neg_ℤ (value_at h p)
turned_value h o p =
    same_by (neg (num h.a) ⊗ num p.x ⊕ neg (num h.b) ⊗ num p.y ⊕ neg (num h.c) ⊗ num (pos p.w))
    (neg (num h.a ⊗ num p.x ⊕ num h.b ⊗ num p.y ⊕ num h.c ⊗ num (pos p.w))) (omega arith)

abbrev Apart : Op → ℤ → Type 0
Apart Over v = (pos 0 ≤ℤ neg_ℤ v) ⊎ ⊥
Apart AtLeast v = (pos 0 <ℤ neg_ℤ v) ⊎ ⊥
Apart Zero v = (pos 0 <ℤ v) ⊎ ((pos 0 <ℤ neg_ℤ v) ⊎ ⊥)

apart_or_not : (o : Op) (v : ℤ) → Says o v ⊎ Apart o v
apart_or_not Over v = elim (cases_order_ℤ (pos 0) v) [ inl h ↦ inl h | inr h ↦ inr (inl (omega (arith, ints))) ]
apart_or_not AtLeast v = elim (cases_order_ℤ v (pos 0)) [ inl h ↦ inr (inl (omega (arith, ints))) | inr h ↦ inl h ]
apart_or_not Zero v = elim (cases_order_ℤ (pos 0) v) [
  | inl h ↦ inr (inl h)
  | inr h ↦ elim (cases_order_ℤ v (pos 0)) [ inl k ↦ inr (inr (inl (omega (arith, ints)))) | inr k ↦ inl (omega (arith, ints)) ]
]

not_both : (o : Op) (v : ℤ) → Says o v → Apart o v → ⊥
not_both Over v h (inl k) = omega (arith, ints)
not_both Over v h (inr k) = k
not_both AtLeast v h (inl k) = omega (arith, ints)
not_both AtLeast v h (inr k) = k
not_both Zero v h (inl k) = omega (arith, ints)
not_both Zero v h (inr (inl k)) = omega (arith, ints)
not_both Zero v h (inr (inr k)) = k

without_is : (h : HalfPlane) (o : Op) (p : Point) → SomeOf (λ g. Holds g p) (without_by o h) ↔ Apart o (value_at h p)
without_is h Over p = (
  λ k. elim k [ inl a ↦ inl (subst (λ v. pos 0 ≤ℤ v) (turned_value h AtLeast p) a) | inr b ↦ inr b ],
  λ k. elim
      k [ inl a ↦ inl (subst (λ v. pos 0 ≤ℤ v) (sym (turned_value h AtLeast p)) a) | inr b ↦ inr b ],
)
without_is h AtLeast p = (
  λ k. elim k [ inl a ↦ inl (subst (λ v. pos 0 <ℤ v) (turned_value h Over p) a) | inr b ↦ inr b ],
  λ k. elim
      k [ inl a ↦ inl (subst (λ v. pos 0 <ℤ v) (sym (turned_value h Over p)) a) | inr b ↦ inr b ],
)
without_is h Zero p = (
  λ k. elim k [
    | inl a ↦ inl a
    | inr b ↦ inr
        (elim b [ inl c ↦ inl (subst (λ v. pos 0 <ℤ v) (turned_value h Over p) c) | inr d ↦ inr d ])
  ],
  λ k. elim k [
    | inl a ↦ inl a
    | inr b ↦ inr
        (elim b [ inl c ↦ inl (subst (λ v. pos 0 <ℤ v) (sym (turned_value h Over p)) c) | inr d ↦ inr d ])
  ],
)

holds_or_not : (h : HalfPlane) (p : Point) → Holds h p ⊎ SomeOf (λ g. Holds g p) (without h)
holds_or_not h p = elim (apart_or_not h.op (value_at h p)) [ inl a ↦ inl a | inr b ↦ inr ((without_is h h.op p).1 b) ]

holds_not_without : (h : HalfPlane) (p : Point) → Holds h p → SomeOf (λ g. Holds g p) (without h) → ⊥
holds_not_without h p a b = not_both h.op (value_at h p) a ((without_is h h.op p).0 b)

-- ---- out of a cell
more_points : (before : Cell) (p : Point) (gs : Cell) → InCells (map {A = HalfPlane} (λ g. before ++ g ∷ []) gs) p
    ↔ (InCell before p × SomeOf (λ g. Holds g p) gs)
more_points before p [] = (λ h. absurd h, λ h. h.1)
more_points before p (g ∷ gs) =
    let e = all_append (λ h. Holds h p) before (g ∷ []) in
    let k = more_points before p gs in (
      λ h. elim h [ inl a ↦ let m = e.0 a in (m.0, inl m.1.0) | inr b ↦ let m = k.0 b in (m.0, inr m.1) ],
      λ h. elim h.1 [ inl a ↦ inl (e.1 (h.0, (a, tt))) | inr b ↦ inr (k.1 (h.0, b)) ],
    )

out_from_points : (before hs : Cell) (p : Point) → InCells (out_from before hs) p ↔ (InCell before p × ¬ (InCell hs p))
out_from_points before [] p = (λ h. absurd h, λ h. h.1 tt)
out_from_points before (h ∷ hs) p =
    let e = some_append (λ c. InCell c p) (map {A = HalfPlane} (λ g. before ++ g ∷ []) (without h)) (out_from (before ++ h ∷ []) hs) in
    let f = more_points before p (without h) in
    let k = out_from_points (before ++ h ∷ []) hs p in
    let m = all_append (λ g. Holds g p) before (h ∷ []) in (
      λ i. elim (e.0 i) [
        | inl a ↦ let b = f.0 a in (b.0, λ n. holds_not_without h p n.0 b.1)
        | inr a ↦ let b = k.0 a in ((m.0 b.0).0, λ n. b.1 n.1)
      ],
      λ i. elim (holds_or_not h p) [
        | inl a ↦ e.1 (inr (k.1 (m.1 (i.0, (a, tt)), λ n. i.1 (a, n))))
        | inr b ↦ e.1 (inl (f.1 (i.0, b)))
      ],
    )

pub out_of_cell_points : (c : Cell) (p : Point) → InCells (out_of_cell c) p ↔ ¬ (InCell c p)
out_of_cell_points c p = let e = out_from_points [] c p in (λ h. (e.0 h).1, λ n. e.1 (tt, n))

-- ---- a place, and out of it
pub at_place_points : (q : Place) (p : Point) → InCell (at_place q) p ↔ IsAt q p
at_place_points q p =
    let e = x_is_holds q.x p in
    let f = y_is_holds q.y p in
    (λ h. record { x = e.0 h.0; y = f.0 h.1.0 }, λ a. (e.1 a.x, (f.1 a.y, tt)))

pub out_of_place_points : (q : Place) (p : Point) → InCells (out_of_place q) p ↔ ¬ (IsAt q p)
out_of_place_points q p = (
  λ h a. forward h a,
  λ n. elim (cases_order_ℤ p.x (q.x *ℤ pos p.w)) [
    | inl h ↦ inl ((x_under_holds q.x p).1 h, tt)
    | inr h ↦ elim (cases_order_ℤ (q.x *ℤ pos p.w) p.x) [
      | inl k ↦ inr (inl ((x_over_holds q.x p).1 k, tt))
      | inr k ↦
          let e : p.x ≡ q.x *ℤ pos p.w = omega (arith, ints) in
          elim (cases_order_ℤ p.y (q.y *ℤ pos p.w)) [
            | inl l ↦ inr (inr (inl ((x_is_holds q.x p).1 e, ((y_under_holds q.y p).1 l, tt))))
            | inr l ↦ elim (cases_order_ℤ (q.y *ℤ pos p.w) p.y) [
              | inl m ↦ inr (inr (inr (inl ((x_is_holds q.x p).1 e, ((y_over_holds q.y p).1 m, tt)))))
              | inr m ↦ absurd (n (record { x = e; y = omega (arith, ints) }))
            ]
          ]
    ]
  ],
)
  where
    forward : InCells (out_of_place q) p → IsAt q p → ⊥
    forward (inl h) a = omega (arith, ints, (x_under_holds q.x p).0 h.0, a.x)
    forward (inr (inl h)) a = omega (arith, ints, (x_over_holds q.x p).0 h.0, a.x)
    forward (inr (inr (inl h))) a = omega (arith, ints, (y_under_holds q.y p).0 h.1.0, a.y)
    forward (inr (inr (inr (inl h)))) a = omega (arith, ints, (y_over_holds q.y p).0 h.1.0, a.y)
    forward (inr (inr (inr (inr h)))) a = h

-- ---- out of a rectangle
pub out_of_rect_points : (r : Rectangle) (p : Point) → InCells (out_of_rect r) p ↔ ¬ (RectHolds r p)
out_of_rect_points r p = (
  λ h a. forward h a,
  λ n. elim (cases_order_ℤ p.x (r.x0 *ℤ pos p.w)) [
    | inl h ↦ inl ((x_under_holds r.x0 p).1 h, tt)
    | inr h ↦ elim (cases_order_ℤ (r.x1 *ℤ pos p.w) p.x) [
      | inl k ↦ inr (inl ((x_over_holds r.x1 p).1 k, tt))
      | inr k ↦ elim (cases_order_ℤ p.y (r.y0 *ℤ pos p.w)) [
        | inl l ↦ inr (inr (inl ((y_under_holds r.y0 p).1 l, tt)))
        | inr l ↦ elim (cases_order_ℤ (r.y1 *ℤ pos p.w) p.y) [
          | inl m ↦ inr (inr (inr (inl ((y_over_holds r.y1 p).1 m, tt))))
          | inr m ↦ absurd (n (record { left = h; right = k; below = l; above = m }))
        ]
      ]
    ]
  ],
)
  where
    forward : InCells (out_of_rect r) p → RectHolds r p → ⊥
    forward (inl h) a = omega (arith, ints, (x_under_holds r.x0 p).0 h.0, a.left)
    forward (inr (inl h)) a = omega (arith, ints, (x_over_holds r.x1 p).0 h.0, a.right)
    forward (inr (inr (inl h))) a = omega (arith, ints, (y_under_holds r.y0 p).0 h.0, a.below)
    forward (inr (inr (inr (inl h)))) a = omega (arith, ints, (y_over_holds r.y1 p).0 h.0, a.above)
    forward (inr (inr (inr (inr h)))) a = h

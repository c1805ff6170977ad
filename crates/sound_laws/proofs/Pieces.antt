-- Adding and cutting make nothing else dirty, and adding keeps a list of rectangles of which none lies in another.
use Rattle.std.proofs.Common.{◌≡◌, ◌⊎◌, inl, inr, ℤ, ◌≤ℤ◌, Bool, true, false, not, arith, refl, List, [], ◌∷◌, ◌++◌}
use Rattle.std.specs.Prelude.{int_lt, if◌then◌else◌, cond}
use Rattle.std.specs.Int.{int_max, int_min}
use Rattle.std.specs.List.{list_any, filter}
use Rattle.std.proofs.lemmas.Int.{ints, clamps}
use Rattle.plane_terms.specs.Point.{Point}
use Rattle.plane_terms.specs.Lists.{Every}
use Rattle.plane_terms.specs.Rectangle.{Rectangle, RectHolds, is_within, rects_meet, rect_of}
use Rattle.plane_terms.specs.Dirt.{Covers, add_dirt, piece_if, pieces, add_all, cut_from, cut_dirt, AreLoose, IsLoose}
use Rattle.number_laws.proofs.Order.{scaled_le}
use Rattle.sound_laws.proofs.Dirts.{Covers_append}

from_test : (b : Bool) (d e : List Rectangle) (p : Point) → Covers (if b then d else e) p
    → ((b ≡ true) × Covers d p) ⊎ ((b ≡ false) × Covers e p)
from_test true d e p h = inl (refl, h)
from_test false d e p h = inr (refl, h)

from_piece : (b : Bool) (r : Rectangle) (p : Point) → Covers (piece_if b r) p → RectHolds r p
from_piece true r p h = elim h [ inl k ↦ k | inr k ↦ absurd k ]
from_piece false r p h = absurd h

from_filter : (f : Rectangle → Bool) (d : List Rectangle) (p : Point) → Covers (filter f d) p → Covers d p
from_filter f [] p h = h
from_filter f (r ∷ d) p h = elim (from_test (f r) (r ∷ filter f d) (filter f d) p h) [
  | inl t ↦ elim t.1 [ inl k ↦ inl k | inr k ↦ inr (from_filter f d p k) ]
  | inr t ↦ inr (from_filter f d p t.1)
]

-- nothing else gets dirty
pub add_only : (d : List Rectangle) (r : Rectangle) (p : Point) → Covers (add_dirt d r) p → Covers d p ⊎ RectHolds r p
unfolding add_dirt
add_only d r p h = elim (from_test (list_any (λ s. is_within r s) d) d (filter (λ s. not (is_within s r)) d ++ r ∷ []) p h) [
  | inl t ↦ inl t.1
  | inr t ↦ elim (Covers_append (filter (λ s. not (is_within s r)) d) (r ∷ []) p t.1) [
    | inl k ↦ inl (from_filter (λ s. not (is_within s r)) d p k)
    | inr k ↦ elim k [ inl m ↦ inr m | inr m ↦ absurd m ]
  ]
]

-- the sides of two rectangles that meet
pub meeting : (r w : Rectangle) → rects_meet r w ≡ true → ((r.x0 ≤ℤ w.x1) × (w.x0 ≤ℤ r.x1) × (r.y0 ≤ℤ w.y1) × (w.y0 ≤ℤ r.y1))
meeting r w e = grind (arith, ints)

piece_left : (r w : Rectangle) (p : Point) → w.x0 ≤ℤ r.x1 → RectHolds (rect_of r.x0 r.y0 w.x0 r.y1) p → RectHolds r p
piece_left r w p t h = let e = scaled_le w.x0 r.x1 p.w t in omega (arith, ints)

piece_right : (r w : Rectangle) (p : Point) → r.x0 ≤ℤ w.x1 → RectHolds (rect_of w.x1 r.y0 r.x1 r.y1) p → RectHolds r p
piece_right r w p t h = let e = scaled_le r.x0 w.x1 p.w t in omega (arith, ints)

le_max : (a b : ℤ) → a ≤ℤ int_max a b
le_max a b = omega (arith, ints, clamps)

min_le : (a b : ℤ) → int_min a b ≤ℤ a
min_le a b = omega (arith, ints, clamps)

piece_below : (r w : Rectangle) (p : Point) (a b : ℤ) → r.x0 ≤ℤ a → b ≤ℤ r.x1 → w.y0 ≤ℤ r.y1 → RectHolds (rect_of a r.y0 b w.y0) p
    → RectHolds r p
piece_below r w p a b s t u h =
    let d = scaled_le r.x0 a p.w s in
    let e = scaled_le b r.x1 p.w t in
    let f = scaled_le w.y0 r.y1 p.w u in
    omega (arith, ints)

piece_above : (r w : Rectangle) (p : Point) (a b : ℤ) → r.x0 ≤ℤ a → b ≤ℤ r.x1 → r.y0 ≤ℤ w.y1 → RectHolds (rect_of a w.y1 b r.y1) p
    → RectHolds r p
piece_above r w p a b s t u h =
    let d = scaled_le r.x0 a p.w s in
    let e = scaled_le b r.x1 p.w t in
    let f = scaled_le r.y0 w.y1 p.w u in
    omega (arith, ints)

-- every piece lies in the rectangle
pub pieces_within : (r w : Rectangle) (p : Point) → Covers (pieces r w) p → RectHolds r p
unfolding pieces
pieces_within r w p h =
    let mx0 = int_max r.x0 w.x0 in
    let mx1 = int_min r.x1 w.x1 in
    let left = piece_if (int_lt r.x0 w.x0) (rect_of r.x0 r.y0 w.x0 r.y1) in
    let right = piece_if (int_lt w.x1 r.x1) (rect_of w.x1 r.y0 r.x1 r.y1) in
    let below = piece_if (int_lt r.y0 w.y0) (rect_of mx0 r.y0 mx1 w.y0) in
    let above = piece_if (int_lt w.y1 r.y1) (rect_of mx0 w.y1 mx1 r.y1) in
    elim (from_test (rects_meet r w) (left ++ (right ++ (below ++ above))) (r ∷ []) p h) [
      | inl t ↦
          let m = meeting r w t.0 in
          elim (Covers_append left (right ++ (below ++ above)) p t.1) [
            | inl k ↦ piece_left r w p m.1 (from_piece (int_lt r.x0 w.x0) (rect_of r.x0 r.y0 w.x0 r.y1) p k)
            | inr k ↦ elim (Covers_append right (below ++ above) p k) [
              | inl l ↦ piece_right r w p m.0 (from_piece (int_lt w.x1 r.x1) (rect_of w.x1 r.y0 r.x1 r.y1) p l)
              | inr l ↦ elim (Covers_append below above p l) [
                | inl n ↦ piece_below r w p mx0 mx1 (le_max r.x0 w.x0) (min_le r.x1 w.x1) m.3
                    (from_piece (int_lt r.y0 w.y0) (rect_of mx0 r.y0 mx1 w.y0) p n)
                | inr n ↦ piece_above r w p mx0 mx1 (le_max r.x0 w.x0) (min_le r.x1 w.x1) m.2
                    (from_piece (int_lt w.y1 r.y1) (rect_of mx0 w.y1 mx1 r.y1) p n)
              ]
            ]
          ]
      | inr t ↦ elim t.1 [ inl k ↦ k | inr k ↦ absurd k ]
    ]

add_all_only : (d rs : List Rectangle) (p : Point) → Covers (add_all d rs) p → Covers d p ⊎ Covers rs p
unfolding add_all
add_all_only d [] p h = inl h
add_all_only d (r ∷ rs) p h = elim (add_all_only (add_dirt d r) rs p h) [
  | inl k ↦ elim (add_only d r p k) [ inl m ↦ inl m | inr m ↦ inr (inl m) ]
  | inr k ↦ inr (inr k)
]

cut_from_only : (d rs : List Rectangle) (w : Rectangle) (p : Point) → Covers (cut_from d rs w) p → Covers d p ⊎ Covers rs p
unfolding cut_from
cut_from_only d [] w p h = inl h
cut_from_only d (r ∷ rs) w p h = elim (cut_from_only (add_all d (pieces r w)) rs w p h) [
  | inl k ↦ elim (add_all_only d (pieces r w) p k) [ inl m ↦ inl m | inr m ↦ inr (inl (pieces_within r w p m)) ]
  | inr k ↦ inr (inr k)
]

-- a cut makes nothing dirty
pub cut_only : (d : List Rectangle) (w : Rectangle) (p : Point) → Covers (cut_dirt d w) p → Covers d p
cut_only d w p h = elim (cut_from_only [] d w p h) [ inl k ↦ absurd k | inr k ↦ k ]

-- none lies in another: one more at the end
each_filter : (P : Rectangle → Type 0) (f : Rectangle → Bool) (d : List Rectangle) → Every P d → Every P (filter f d)
each_filter P f [] h = tt
each_filter P f (r ∷ d) h = each_pick P (f r) r (filter f d) h.0 (each_filter P f d h.1)
  where
    each_pick : (P : Rectangle → Type 0) (b : Bool) (r : Rectangle) (d : List Rectangle) → P r → Every P d → Every P (cond b (r ∷ d) d)
    each_pick P true r d h k = (h, k)
    each_pick P false r d h k = k

each_end : (P : Rectangle → Type 0) (d : List Rectangle) (r : Rectangle) → Every P d → P r → Every P (d ++ r ∷ [])
each_end P [] r h k = (k, tt)
each_end P (s ∷ d) r h k = (h.0, each_end P d r h.1 k)

loose_filter : (f : Rectangle → Bool) (d : List Rectangle) → IsLoose d → IsLoose (filter f d)
loose_filter f [] h = tt
loose_filter f (r ∷ d) h = loose_pick (f r) r (filter f d) (each_filter (AreLoose r) f d h.0) (loose_filter f d h.1)
  where
    loose_pick : (b : Bool) (r : Rectangle) (d : List Rectangle) → Every (AreLoose r) d → IsLoose d → IsLoose (cond b (r ∷ d) d)
    loose_pick true r d h k = (h, k)
    loose_pick false r d h k = k

loose_end : (d : List Rectangle) (r : Rectangle) → IsLoose d → Every (λ s. AreLoose s r) d → IsLoose (d ++ r ∷ [])
loose_end [] r h k = (tt, tt)
loose_end (s ∷ d) r h k = (each_end (AreLoose s) d r h.0 k.0, loose_end d r h.1 k.1)

-- what is left by the filter does not lie in the new rectangle, nor it in any of the list
kept_apart : (d : List Rectangle) (r : Rectangle) → list_any (λ s. is_within r s) d ≡ false
    → Every (λ s. AreLoose s r) (filter (λ s. not (is_within s r)) d)
kept_apart [] r e = tt
kept_apart (s ∷ d) r e =
    let a : is_within r s ≡ false = grind arith in
    let b : list_any (λ s. is_within r s) d ≡ false = grind arith in
    pick (is_within s r) s r (filter (λ s. not (is_within s r)) d) refl a (kept_apart d r b)
  where
    pick : (b : Bool) (s r : Rectangle) (d : List Rectangle) → is_within s r ≡ b → is_within r s ≡ false → Every (λ s. AreLoose s r) d
        → Every (λ s. AreLoose s r) (cond (not b) (s ∷ d) d)
    pick true s r d e f k = k
    pick false s r d e f k = (record { left = e; right = f }, k)

pub add_loose : (d : List Rectangle) (r : Rectangle) → IsLoose d → IsLoose (add_dirt d r)
unfolding add_dirt
add_loose d r h = choose (list_any (λ s. is_within r s) d) d (filter (λ s. not (is_within s r)) d ++ r ∷ []) h (λ e.
    loose_end (filter (λ s. not (is_within s r)) d) r (loose_filter (λ s. not (is_within s r)) d h) (kept_apart d r e))
  where
    choose : (b : Bool) (d e : List Rectangle) → IsLoose d → (b ≡ false → IsLoose e) → IsLoose (if b then d else e)
    choose true d e h k = h
    choose false d e h k = k refl

-- what holds of each, and of the new one
pub every_added : (P : Rectangle → Type 0) (d : List Rectangle) (r : Rectangle) → Every P d → P r → Every P (add_dirt d r)
unfolding add_dirt
every_added P d r h k = choose P (list_any (λ s. is_within r s) d) d (filter (λ s. not (is_within s r)) d ++ r ∷ []) h
    (each_end P (filter (λ s. not (is_within s r)) d) r (each_filter P (λ s. not (is_within s r)) d h) k)
  where
    choose : (P : Rectangle → Type 0) (b : Bool) (d e : List Rectangle) → Every P d → Every P e → Every P (if b then d else e)
    choose P true d e h k = h
    choose P false d e h k = k

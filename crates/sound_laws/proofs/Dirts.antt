-- What the dirt covers after a rectangle more, and after a window is cut out.
use Rattle.std.proofs.lemmas.Bool.{or_cases}
pub use Rattle.std.proofs.lemmas.Bool.{cases_Bool as bool_cases}
use Rattle.std.proofs.Common.{◌≡◌, ◌⊎◌, inl, inr, ℕ, ℤ, pos, ◌*ℤ◌, ◌≤ℤ◌, ◌<ℤ◌, Bool, true, false, not, arith, refl, List, [], ◌∷◌, ◌++◌}
use Rattle.std.specs.Prelude.{int_lt, if◌then◌else◌}
use Rattle.std.specs.Int.{int_max, int_min}
use Rattle.std.specs.List.{list_any, filter}
use Rattle.std.proofs.lemmas.Int.{ints}
use Rattle.std.specs.Prelude.{cond}
use Rattle.plane_terms.specs.Point.{Point}
use Rattle.plane_terms.specs.Rectangle.{Rectangle, RectHolds, is_within, rects_meet, rect_of}
use Rattle.plane_terms.specs.Dirt.{Covers, add_dirt, piece_if, pieces, add_all, cut_from, cut_dirt}
use Rattle.number_laws.proofs.Order.{scaled_le}
use Rattle.sound_laws.proofs.Planes.{within_Holds, within_from_test, holds_or_not, le_or_lt}

-- a list covers a point or not
pub covers_or_not : (d : List Rectangle) (p : Point) → Covers d p ⊎ (Covers d p → ⊥)
covers_or_not [] p = inr (λ h. h)
covers_or_not (r ∷ d) p =
    elim (holds_or_not r p) [
      | inl h ↦ inl (inl h)
      | inr n ↦ elim (covers_or_not d p) [
        | inl h ↦ inl (inr h)
        | inr m ↦ inr (λ k. elim k [ inl h ↦ n h | inr h ↦ m h ])
      ]
    ]

pub Covers_left : (d e : List Rectangle) (p : Point) → Covers d p → Covers (d ++ e) p
Covers_left [] e p h = absurd h
Covers_left (r ∷ d) e p h = elim h [ inl k ↦ inl k | inr k ↦ inr (Covers_left d e p k) ]

pub Covers_right : (d e : List Rectangle) (p : Point) → Covers e p → Covers (d ++ e) p
Covers_right [] e p h = h
Covers_right (r ∷ d) e p h = inr (Covers_right d e p h)

pub Covers_append : (d e : List Rectangle) (p : Point) → Covers (d ++ e) p → Covers d p ⊎ Covers e p
Covers_append [] e p h = inr h
Covers_append (r ∷ d) e p h = elim h [ inl k ↦ inl (inl k) | inr k ↦ elim (Covers_append d e p k) [ inl m ↦ inl (inr m) | inr m ↦ inr m ] ]

by_test : (b : Bool) (d e : List Rectangle) (p : Point) → (b ≡ true → Covers d p) → (b ≡ false → Covers e p) → Covers (if b then d else e) p
by_test true d e p h k = h refl
by_test false d e p h k = k refl

-- a rectangle of the list within which another lies covers its points
pub covers_held : (d : List Rectangle) (r : Rectangle) (p : Point) → list_any (λ s. is_within r s) d ≡ true → RectHolds r p → Covers d p
covers_held [] r p e h = cc
covers_held (s ∷ d) r p e h =
    elim (or_cases (is_within r s) (list_any (λ s. is_within r s) d) e) [
      | inl t ↦ inl (within_Holds r s (within_from_test r s t) p h)
      | inr t ↦ inr (covers_held d r p t h)
    ]

kept_head : (b : Bool) (s : Rectangle) (d : List Rectangle) (p : Point) → b ≡ false → RectHolds s p → Covers (cond (not b) (s ∷ d) d) p
kept_head true s d p e h = cc
kept_head false s d p e h = inl h

kept_tail : (b : Bool) (s : Rectangle) (d : List Rectangle) (p : Point) → Covers d p → Covers (cond (not b) (s ∷ d) d) p
kept_tail true s d p h = h
kept_tail false s d p h = inr h

-- what a filter takes out is held by the new rectangle
covers_kept : (d : List Rectangle) (r : Rectangle) (p : Point) → Covers d p → Covers (filter (λ s. not (is_within s r)) d) p ⊎ RectHolds r p
covers_kept [] r p h = absurd h
covers_kept (s ∷ d) r p h =
    elim h [
      | inl k ↦ elim (bool_cases (is_within s r)) [
        | inl t ↦ inr (within_Holds s r (within_from_test s r t) p k)
        | inr f ↦ inl (kept_head (is_within s r) s (filter (λ s. not (is_within s r)) d) p f k)
      ]
      | inr k ↦ elim (covers_kept d r p k) [
        | inl m ↦ inl (kept_tail (is_within s r) s (filter (λ s. not (is_within s r)) d) p m)
        | inr m ↦ inr m
      ]
    ]

-- what was dirty stays dirty
pub add_keeps : (d : List Rectangle) (r : Rectangle) (p : Point) → Covers d p → Covers (add_dirt d r) p
unfolding add_dirt
add_keeps d r p h =
    by_test (list_any (λ s. is_within r s) d) d (filter (λ s. not (is_within s r)) d ++ r ∷ []) p (λ t. h) (λ f.
    elim (covers_kept d r p h) [
      | inl k ↦ Covers_left (filter (λ s. not (is_within s r)) d) (r ∷ []) p k
      | inr k ↦ Covers_right (filter (λ s. not (is_within s r)) d) (r ∷ []) p (inl k)
    ])

-- the new rectangle is dirty
pub add_covers : (d : List Rectangle) (r : Rectangle) (p : Point) → RectHolds r p → Covers (add_dirt d r) p
unfolding add_dirt
add_covers d r p h =
    by_test (list_any (λ s. is_within r s) d) d (filter (λ s. not (is_within s r)) d ++ r ∷ []) p
    (λ t. covers_held d r p t h)
    (λ f. Covers_right (filter (λ s. not (is_within s r)) d) (r ∷ []) p (inl h))

pub add_all_keeps : (d rs : List Rectangle) (p : Point) → Covers d p → Covers (add_all d rs) p
unfolding add_all
add_all_keeps d [] p h = h
add_all_keeps d (r ∷ rs) p h = add_all_keeps (add_dirt d r) rs p (add_keeps d r p h)

pub add_all_covers : (d rs : List Rectangle) (p : Point) → Covers rs p → Covers (add_all d rs) p
unfolding add_all
add_all_covers d [] p h = absurd h
add_all_covers d (r ∷ rs) p h =
    elim h [
      | inl k ↦ add_all_keeps (add_dirt d r) rs p (add_covers d r p k)
      | inr k ↦ add_all_covers (add_dirt d r) rs p k
    ]

lt_from_scaled : (a b x : ℤ) (w : ℕ) → (a *ℤ pos w) ≤ℤ x → x <ℤ (b *ℤ pos w) → int_lt a b ≡ true
lt_from_scaled a b x w h k =
    elim (le_or_lt b a) [
      | inl t ↦ let e = scaled_le b a w t.1 in absurd (omega (arith, ints))
      | inr t ↦ grind (arith, ints)
    ]

lt_from_below : (a b x : ℤ) (w : ℕ) → (a *ℤ pos w) <ℤ x → x ≤ℤ (b *ℤ pos w) → int_lt a b ≡ true
lt_from_below a b x w h k =
    elim (le_or_lt b a) [
      | inl t ↦ let e = scaled_le b a w t.1 in absurd (omega (arith, ints))
      | inr t ↦ grind (arith, ints)
    ]

pick_at_most : (t : Bool) (a b x : ℤ) (w : ℕ) → (a *ℤ pos w) ≤ℤ x → (b *ℤ pos w) ≤ℤ x → (cond t a b *ℤ pos w) ≤ℤ x
pick_at_most true a b x w h k = h
pick_at_most false a b x w h k = k

pick_at_least : (t : Bool) (a b x : ℤ) (w : ℕ) → x ≤ℤ (a *ℤ pos w) → x ≤ℤ (b *ℤ pos w) → x ≤ℤ (cond t a b *ℤ pos w)
pick_at_least true a b x w h k = h
pick_at_least false a b x w h k = k

in_piece : (b : Bool) (r : Rectangle) (p : Point) → b ≡ true → RectHolds r p → Covers (piece_if b r) p
in_piece true r p e h = inl h
in_piece false r p e h = cc

-- every point of a rectangle outside the window is in a piece
pub pieces_cover : (r w : Rectangle) (p : Point) → RectHolds r p → (RectHolds w p → ⊥) → Covers (pieces r w) p
unfolding pieces
pieces_cover r w p h n =
    let mx0 = int_max r.x0 w.x0 in
    let mx1 = int_min r.x1 w.x1 in
    let left = piece_if (int_lt r.x0 w.x0) (rect_of r.x0 r.y0 w.x0 r.y1) in
    let right = piece_if (int_lt w.x1 r.x1) (rect_of w.x1 r.y0 r.x1 r.y1) in
    let below = piece_if (int_lt r.y0 w.y0) (rect_of mx0 r.y0 mx1 w.y0) in
    let above = piece_if (int_lt w.y1 r.y1) (rect_of mx0 w.y1 mx1 r.y1) in
    by_test (rects_meet r w) (left ++ (right ++ (below ++ above))) (r ∷ []) p
    (λ t. elim (le_or_lt (w.x0 *ℤ pos p.w) p.x) [
      | inr a ↦ Covers_left left (right ++ (below ++ above)) p
          (in_piece (int_lt r.x0 w.x0) (rect_of r.x0 r.y0 w.x0 r.y1) p (lt_from_scaled r.x0 w.x0 p.x p.w h.left a.1) (omega (arith, ints)))
      | inl a ↦ elim (le_or_lt p.x (w.x1 *ℤ pos p.w)) [
        | inr b ↦ Covers_right left (right ++ (below ++ above)) p (Covers_left right (below ++ above) p
            (in_piece (int_lt w.x1 r.x1) (rect_of w.x1 r.y0 r.x1 r.y1) p (lt_from_below w.x1 r.x1 p.x p.w b.1 h.right)
            (omega (arith, ints))))
        | inl b ↦
            let low = pick_at_most (int_lt w.x0 r.x0) r.x0 w.x0 p.x p.w h.left a.1 in
            let high = pick_at_least (int_lt w.x1 r.x1) w.x1 r.x1 p.x p.w b.1 h.right in
            elim (le_or_lt (w.y0 *ℤ pos p.w) p.y) [
              | inr c ↦ Covers_right left (right ++ (below ++ above)) p (Covers_right right (below ++ above) p (Covers_left below above p
                  (in_piece (int_lt r.y0 w.y0) (rect_of mx0 r.y0 mx1 w.y0) p (lt_from_scaled r.y0 w.y0 p.y p.w h.below c.1)
                  (record { left = low; right = high; below = h.below; above = omega (arith, ints) }))))
              | inl c ↦ elim (le_or_lt p.y (w.y1 *ℤ pos p.w)) [
                | inr d ↦ Covers_right left (right ++ (below ++ above)) p (Covers_right right (below ++ above) p (Covers_right below above p
                    (in_piece (int_lt w.y1 r.y1) (rect_of mx0 w.y1 mx1 r.y1) p (lt_from_below w.y1 r.y1 p.y p.w d.1 h.above)
                    (record { left = low; right = high; below = omega (arith, ints); above = h.above }))))
                | inl d ↦ absurd (n (record { left = a.1; right = b.1; below = c.1; above = d.1 }))
              ]
            ]
      ]
    ])
    (λ f. inl h)

cut_from_keeps : (d rs : List Rectangle) (w : Rectangle) (p : Point) → Covers d p → Covers (cut_from d rs w) p
unfolding cut_from
cut_from_keeps d [] w p h = h
cut_from_keeps d (r ∷ rs) w p h = cut_from_keeps (add_all d (pieces r w)) rs w p (add_all_keeps d (pieces r w) p h)

cut_from_covers : (d rs : List Rectangle) (w : Rectangle) (p : Point) → Covers rs p → (RectHolds w p → ⊥) → Covers (cut_from d rs w) p
unfolding cut_from
cut_from_covers d [] w p h n = absurd h
cut_from_covers d (r ∷ rs) w p h n =
    elim h [
      | inl k ↦ cut_from_keeps (add_all d (pieces r w)) rs w p (add_all_covers d (pieces r w) p (pieces_cover r w p k n))
      | inr k ↦ cut_from_covers (add_all d (pieces r w)) rs w p k n
    ]

-- what was dirty outside the window stays dirty
pub cut_covers : (d : List Rectangle) (w : Rectangle) (p : Point) → Covers d p → (RectHolds w p → ⊥) → Covers (cut_dirt d w) p
cut_covers d w p h n = cut_from_covers [] d w p h n

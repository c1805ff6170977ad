-- What the calls cite: one rectangle more, and a window less, step by step.
use Rattle.std.proofs.Common.{◌≡◌, ◌≤ℤ◌, arith, Bool, true, false, not, refl, sym, ap, ◌∙◌, inl, inr, List, [], ◌∷◌, ◌++◌}
use Rattle.std.specs.Prelude.{◌↔◌, ◌||◌, IsTrue, int_lt, Option, Some, None, IfSome}
use Rattle.std.specs.Option.{option_to_list}
use Rattle.std.specs.Int.{int_max, int_min}
use Rattle.std.proofs.lemmas.Bool.{or_cases, or_left, or_parts, or_right}
use Rattle.std.proofs.lemmas.Int.{ints, clamps}
use Rattle.std.specs.List.{list_any, filter}
use Rattle.plane_terms.specs.Lists.{Every}
use Rattle.plane_terms.specs.Point.{Point}
use Rattle.plane_terms.specs.Rectangle.{Rectangle, RectHolds, IsRectangle, is_within, rects_meet, rect_of, part_of}
use Rattle.plane_terms.specs.Dirt.{MeetsPart, Covers, MeetsDirt, add_dirt, add_all, cut_from, pieces, piece_if}
use Rattle.sound_laws.proofs.Pieces.{meeting, every_added, add_loose}
use Rattle.sound_laws.proofs.Meetings.{meets_test, meets_from_test}
use Rattle.dirty_area.specs.Parts.{IsDirt, IsCommon}

-- ---- one rectangle more
pub add_dirt-held : (d : List Rectangle) (r : Rectangle) → list_any (λ s. is_within r s) d ≡ true → add_dirt d r ≡ d
unfolding add_dirt
add_dirt-held d r e = rw e

pub add_dirt-loose : (d : List Rectangle) (r : Rectangle) → list_any (λ s. is_within r s) d ≡ false
    → add_dirt d r ≡ filter (λ s. not (is_within s r)) d ++ r ∷ []
unfolding add_dirt
add_dirt-loose d r e = rw e

-- one that none holds and that holds none
none_nested : (d : List Rectangle) (r : Rectangle) → list_any (λ s. is_within r s || is_within s r) d ≡ false
    → (list_any (λ s. is_within r s) d ≡ false) × (filter (λ s. not (is_within s r)) d ≡ d)
none_nested [] r e = (refl, refl)
none_nested (s ∷ d) r e =
    let k = or_parts (is_within r s || is_within s r) (list_any (λ s. is_within r s || is_within s r) d) e in
    let m = or_parts (is_within r s) (is_within s r) k.0 in
    let rest = none_nested d r k.1 in
    (rw (m.0, rest.0) refl, rw (m.1, rest.1) refl)

pub add_dirt-apart : (d : List Rectangle) (r : Rectangle) → list_any (λ s. is_within r s || is_within s r) d ≡ false
    → add_dirt d r ≡ d ++ r ∷ []
add_dirt-apart d r e = let k = none_nested d r e in add_dirt-loose d r k.0 ∙ ap (λ ss. ss ++ r ∷ []) k.1

pub add_all-none : (d : List Rectangle) → add_all d [] ≡ d
unfolding add_all
add_all-none d = refl

pub add_all-one : (d : List Rectangle) (r : Rectangle) → add_all d (r ∷ []) ≡ add_dirt d r
unfolding add_all
add_all-one d r = refl

add_all-append : (d xs ys : List Rectangle) → add_all d (xs ++ ys) ≡ add_all (add_all d xs) ys
unfolding add_all
add_all-append d [] ys = refl
add_all-append d (x ∷ xs) ys = add_all-append (add_dirt d x) xs ys

-- ---- the pieces of one
pub pieces-apart : (r w : Rectangle) → rects_meet r w ≡ false → pieces r w ≡ r ∷ []
unfolding pieces
pieces-apart r w e = rw e

pub pieces_round : (r w m : Rectangle) → rects_meet r w ≡ true → m ≡ part_of r w → pieces r w ≡
    piece_if (int_lt r.x0 w.x0) (rect_of r.x0 r.y0 w.x0 r.y1)
    ++ (piece_if (int_lt w.x1 r.x1) (rect_of w.x1 r.y0 r.x1 r.y1)
    ++ (piece_if (int_lt r.y0 w.y0) (rect_of m.x0 r.y0 m.x1 w.y0)
    ++ piece_if (int_lt w.y1 r.y1) (rect_of m.x0 w.y1 m.x1 r.y1)))
unfolding pieces
pieces_round r w m e f = rw (e, f)

pub add_all-four : (d a b c e : List Rectangle) → add_all d (a ++ (b ++ (c ++ e))) ≡ add_all (add_all (add_all (add_all d a) b) c) e
add_all-four d a b c e = rw (add_all-append, add_all-append, add_all-append)

-- four calls add the pieces
pub pieces_added : (d d1 d2 d3 d4 : List Rectangle) (r w m : Rectangle) (a b c e : List Rectangle) → IsCommon m r w
    → a ≡ piece_if (int_lt r.x0 w.x0) (rect_of r.x0 r.y0 w.x0 r.y1) → b ≡ piece_if (int_lt w.x1 r.x1) (rect_of w.x1 r.y0 r.x1 r.y1)
    → c ≡ piece_if (int_lt r.y0 w.y0) (rect_of m.x0 r.y0 m.x1 w.y0) → e ≡ piece_if (int_lt w.y1 r.y1) (rect_of m.x0 w.y1 m.x1 r.y1)
    → d1 ≡ add_all d a → d2 ≡ add_all d1 b → d3 ≡ add_all d2 c → d4 ≡ add_all d3 e → d4 ≡ add_all d (pieces r w)
pieces_added d d1 d2 d3 d4 r w m a b c e h ha hb hc he h1 h2 h3 h4 =
    let f = pieces_round r w m (meets_test r w h.meet) h.part in
    let g = add_all-four d a b c e in
    cc

-- ---- nothing more is cut
pub cut_from-none : (d : List Rectangle) (w : Rectangle) → cut_from d [] w ≡ d
unfolding cut_from
cut_from-none d w = refl

-- ---- what is common
-- the sides of what two rectangles that meet have in common
pub common_sides : (m r w : Rectangle) → IsCommon m r w → IsRectangle r → IsRectangle w
    → ((r.x0 ≤ℤ m.x0) × (m.x0 ≤ℤ m.x1) × (m.x1 ≤ℤ r.x1) × (w.y0 ≤ℤ r.y1) × (r.y0 ≤ℤ w.y1))
common_sides m r w h i j =
    let k = meeting r w (meets_test r w h.meet) in
    let low : m.x0 ≡ int_max r.x0 w.x0 = ap (λ (s : Rectangle). s.x0) h.part in
    let high : m.x1 ≡ int_min r.x1 w.x1 = ap (λ (s : Rectangle). s.x1) h.part in
    omega (arith, ints, clamps)

-- a rectangle of the list meets r exactly where some point of r is dirty
some_meets : (d : List Rectangle) (r : Rectangle) → Every IsRectangle d → IsRectangle r → list_any (λ s. rects_meet s r) d ≡ true
    → MeetsDirt d r
some_meets [] r h i e = absurd cc
some_meets (s ∷ d) r h i e = elim (or_cases (rects_meet s r) (list_any (λ t. rects_meet t r) d) e) [
  | inl t ↦ let m = meets_from_test s r h.0.proper i.proper t in (m.0, inl m.1, m.2)
  | inr t ↦ let m = some_meets d r h.1 i t in (m.0, inr m.1, m.2)
]

met : (d : List Rectangle) (r : Rectangle) (p : Point) → Covers d p → RectHolds r p → list_any (λ s. rects_meet s r) d ≡ true
met [] r p h k = absurd h
met (s ∷ d) r p h k = elim h [
  | inl t ↦ or_left (rects_meet s r) (list_any (λ t. rects_meet t r) d) (meets_test s r (p, t, k))
  | inr t ↦ or_right (rects_meet s r) (list_any (λ t. rects_meet t r) d) (met d r p t k)
]

pub meets_dirt : (d : List Rectangle) (r : Rectangle) (t : Bool) → Every IsRectangle d → IsRectangle r
    → t ≡ list_any (λ s. rects_meet s r) d → IsTrue t ↔ MeetsDirt d r
meets_dirt d r t h i e = ((λ k. some_meets d r h i (sym e ∙ k)), (λ k. e ∙ met d r k.0 k.1 k.2))

-- a point of both rectangles that some of the dirt holds
pub meets_part_by : (d : List Rectangle) (w r m : Rectangle) (t : Bool) → ((p : Point) → RectHolds m p ↔ (RectHolds w p × RectHolds r p))
    → (IsTrue t ↔ MeetsDirt d m) → IsTrue t ↔ MeetsPart d w r
meets_part_by d w r m t same meets = (
  (λ e. let k = meets.0 e in let b = (same k.0).0 k.2 in (k.0, k.1, b.0, b.1)),
  (λ k. meets.1 (k.0, k.1, (same k.0).1 (k.2, k.3))),
)

-- ---- the invariant
pub dirt_added : (d e : List Rectangle) (r : Rectangle) → e ≡ add_dirt d r → IsDirt d → IsRectangle r → IsDirt e
dirt_added d e r h i j = rw h (record { loose = add_loose d r i.loose; on_grid = every_added IsRectangle d r i.on_grid j })

pub some_added : (d e : List Rectangle) (o : Option Rectangle) → e ≡ add_all d (option_to_list o) → IfSome o IsRectangle → IsDirt d → IsDirt e
some_added d e None h k i = rw (h, add_all-none d) i
some_added d e (Some r) h k i = dirt_added d e r (h ∙ add_all-one d r) i k

-- A rectangle beside the window is put last as it stands: what was left so far neither holds it nor lies in it.
use Rattle.std.proofs.Common.{◌≡◌, arith, Bool, true, false, not, refl, List, [], ◌∷◌, ◌++◌}
use Rattle.std.specs.Prelude.{int_lt}
use Rattle.std.specs.Int.{int_max, int_min}
use Rattle.std.specs.List.{list_any, filter}
use Rattle.std.proofs.lemmas.Int.{ints, clamps}
use Rattle.plane_terms.specs.Lists.{Every}
use Rattle.plane_terms.specs.Rectangle.{Rectangle, IsProper, IsWithin, is_within, rects_meet, rect_of, part_of}
use Rattle.plane_terms.specs.Dirt.{AreLoose, add_dirt, add_all, pieces, piece_if}
use Rattle.sound_laws.proofs.Planes.{within_from_test}
use Rattle.sound_laws.proofs.Pieces.{meeting, every_added}
use Rattle.dirty_area.proofs.Calls.{add_dirt-loose, add_all-one, add_all-four, pieces-apart, pieces_round}

-- ---- one piece
-- a part of y that meets the window, and a rectangle beside the window that is loose from y
pub part_loose : (s y x w : Rectangle) → IsWithin s y → rects_meet s w ≡ true → rects_meet x w ≡ false → AreLoose y x → AreLoose s x
part_loose s y x w h m n l = record { left = inner (is_within s x) refl; right = outer (is_within x s) refl }
  where
    inner : (b : Bool) → is_within s x ≡ b → b ≡ false
    inner false e = refl
    inner true e =
        let i = within_from_test s x e in
        let k = meeting s w m in
        let t : rects_meet x w ≡ true = grind (arith, ints) in
        cc

    outer : (b : Bool) → is_within x s ≡ b → b ≡ false
    outer false e = refl
    outer true e =
        let i = within_from_test x s e in
        let t : is_within x y ≡ true = grind (arith, ints) in
        let f = l.right in
        cc

pub left_part : (y w : Rectangle) → IsProper w → rects_meet y w ≡ true → IsWithin (rect_of y.x0 y.y0 w.x0 y.y1) y
    × (rects_meet (rect_of y.x0 y.y0 w.x0 y.y1) w ≡ true)
left_part y w v e = let k = meeting y w e in (omega (arith, ints), grind (arith, ints))

pub right_part : (y w : Rectangle) → IsProper w → rects_meet y w ≡ true → IsWithin (rect_of w.x1 y.y0 y.x1 y.y1) y
    × (rects_meet (rect_of w.x1 y.y0 y.x1 y.y1) w ≡ true)
right_part y w v e = let k = meeting y w e in (omega (arith, ints), grind (arith, ints))

pub below_part : (y w : Rectangle) → IsProper w → rects_meet y w ≡ true
    → IsWithin (rect_of (int_max y.x0 w.x0) y.y0 (int_min y.x1 w.x1) w.y0) y × (rects_meet
    (rect_of (int_max y.x0 w.x0) y.y0 (int_min y.x1 w.x1) w.y0) w ≡ true)
below_part y w v e = let k = meeting y w e in (omega (arith, ints, clamps), grind (arith, ints, clamps))

pub above_part : (y w : Rectangle) → IsProper w → rects_meet y w ≡ true
    → IsWithin (rect_of (int_max y.x0 w.x0) w.y1 (int_min y.x1 w.x1) y.y1) y × (rects_meet
    (rect_of (int_max y.x0 w.x0) w.y1 (int_min y.x1 w.x1) y.y1) w ≡ true)
above_part y w v e = let k = meeting y w e in (omega (arith, ints, clamps), grind (arith, ints, clamps))

-- ---- all that is left
pub piece_added : (P : Rectangle → Type 0) (d : List Rectangle) (b : Bool) (s : Rectangle) → Every P d → P s
    → Every P (add_all d (piece_if b s))
unfolding add_all
piece_added P d true s h k = every_added P d s h k
piece_added P d false s h k = h

pub pieces_loose : (d : List Rectangle) (y x w : Rectangle) → IsProper w → rects_meet x w ≡ false → AreLoose y x → Every (λ s. AreLoose s x) d
    → Every (λ s. AreLoose s x) (add_all d (pieces y w))
pieces_loose d y x w v n l h = by (rects_meet y w) refl
  where
    by : (b : Bool) → rects_meet y w ≡ b → Every (λ s. AreLoose s x) (add_all d (pieces y w))
    by false e = rw (pieces-apart y w e, add_all-one) (every_added (λ s. AreLoose s x) d y h l)
    by true e =
        let mx0 = int_max y.x0 w.x0 in
        let mx1 = int_min y.x1 w.x1 in
        let P : Rectangle → Type 0 = λ s. AreLoose s x in
        let a = left_part y w v e in
        let b = right_part y w v e in
        let c = below_part y w v e in
        let f = above_part y w v e in
        rw (pieces_round y w (part_of y w) e refl, add_all-four)
        (piece_added P _ (int_lt w.y1 y.y1) (rect_of mx0 w.y1 mx1 y.y1)
        (piece_added P _ (int_lt y.y0 w.y0) (rect_of mx0 y.y0 mx1 w.y0)
        (piece_added P _ (int_lt w.x1 y.x1) (rect_of w.x1 y.y0 y.x1 y.y1)
        (piece_added P d (int_lt y.x0 w.x0) (rect_of y.x0 y.y0 w.x0 y.y1) h (part_loose _ y x w a.0 a.1 n l))
        (part_loose _ y x w b.0 b.1 n l))
        (part_loose _ y x w c.0 c.1 n l))
        (part_loose _ y x w f.0 f.1 n l))

-- ---- it is put last
not_held : (d : List Rectangle) (x : Rectangle) → Every (λ s. AreLoose s x) d → list_any (λ s. is_within x s) d ≡ false
not_held [] x h = refl
not_held (s ∷ d) x h = rw (h.0.right) (not_held d x h.1)

none_dropped : (d : List Rectangle) (x : Rectangle) → Every (λ s. AreLoose s x) d → filter (λ s. not (is_within s x)) d ≡ d
none_dropped [] x h = refl
none_dropped (s ∷ d) x h = let e = none_dropped d x h.1 in rw (h.0.left, e) refl

pub put_last : (d : List Rectangle) (x : Rectangle) → Every (λ s. AreLoose s x) d → add_dirt d x ≡ d ++ x ∷ []
put_last d x h = rw (add_dirt-loose d x (not_held d x h), none_dropped d x h) refl

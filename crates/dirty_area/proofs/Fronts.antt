-- A piece of a rectangle holds none of those that stand before it.
use Rattle.std.proofs.Common.{arith, ◌≡◌, refl, ap, ◌∙◌, Bool, true, false, List, Option, Some, None}
use Rattle.std.specs.Prelude.{IfSome, int_lt}
use Rattle.std.specs.Option.{option_to_list}
use Rattle.std.specs.Int.{int_max, int_min}
use Rattle.std.proofs.lemmas.Int.{ints}
use Rattle.plane_terms.specs.Lists.{Every}
use Rattle.plane_terms.specs.Rectangle.{Rectangle, IsProper, IsWithin, is_within, rects_meet, rect_of, part_of}
use Rattle.plane_terms.specs.Dirt.{AreLoose, piece_if}
use Rattle.plane_terms.proofs.ListLemmas.{every_map}
use Rattle.sound_laws.proofs.Planes.{within_from_test}
use Rattle.dirty_area.specs.Cuts.{Left, front}
use Rattle.dirty_area.proofs.Beside.{below_part, above_part}

not_inside : (q r x : Rectangle) → IsWithin q r → is_within x r ≡ false → is_within x q ≡ false
not_inside q r x i e = by (is_within x q) refl
  where
    by : (b : Bool) → is_within x q ≡ b → is_within x q ≡ false
    by false t = t
    by true t =
        let k = within_from_test x q t in
        let held : is_within x r ≡ true = grind (arith, ints) in
        absurd cc

pub piece_front : (o : Option Rectangle) (b : Bool) (q r : Rectangle) (d e : List Rectangle) → option_to_list o ≡ piece_if b q → IsWithin q r
    → Every (AreLoose r) d → e ≡ d → IfSome o (λ s. Every (λ x. is_within x s ≡ false) e)
piece_front None b q r d e h i loose same = tt
piece_front (Some s) false q r d e h i loose same = absurd cc
piece_front (Some s) true q r d e h i loose same =
    let is : s ≡ q = cc in
    rw (is, same) (every_map (AreLoose r) (λ x. is_within x q ≡ false) (λ x l. not_inside q r x i l.right) d loose)

pub below_front : (r w m : Rectangle) (o : Option Rectangle) (d e : List Rectangle) → IsProper w → rects_meet r w ≡ true → m ≡ part_of r w
    → option_to_list o ≡ piece_if (int_lt r.y0 w.y0) (rect_of m.x0 r.y0 m.x1 w.y0) → Every (AreLoose r) d → e ≡ d
    → IfSome o (λ s. Every (λ x. is_within x s ≡ false) e)
below_front r w m o d e v met p h loose same =
    piece_front o (int_lt r.y0 w.y0) (rect_of (int_max r.x0 w.x0) r.y0 (int_min r.x1 w.x1) w.y0) r d e
    (h ∙ ap (λ (t : Rectangle). piece_if (int_lt r.y0 w.y0) (rect_of t.x0 r.y0 t.x1 w.y0)) p) (below_part r w v met).0 loose same

pub above_front : (r w m : Rectangle) (o : Option Rectangle) (d e : List Rectangle) → IsProper w → rects_meet r w ≡ true → m ≡ part_of r w
    → option_to_list o ≡ piece_if (int_lt w.y1 r.y1) (rect_of m.x0 w.y1 m.x1 r.y1) → Every (AreLoose r) d → e ≡ d
    → IfSome o (λ s. Every (λ x. is_within x s ≡ false) e)
above_front r w m o d e v met p h loose same =
    piece_front o (int_lt w.y1 r.y1) (rect_of (int_max r.x0 w.x0) w.y1 (int_min r.x1 w.x1) r.y1) r d e
    (h ∙ ap (λ (t : Rectangle). piece_if (int_lt w.y1 r.y1) (rect_of t.x0 w.y1 t.x1 r.y1)) p) (above_part r w v met).0 loose same

pub front_same : (l m : Left) → m.runs ≡ l.runs → m.next ≡ l.next → front m ≡ front l
front_same l m e f = rw (e, f) refl

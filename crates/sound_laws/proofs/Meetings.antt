-- The test of meeting, and envelopes: their corners are in order.
use Rattle.std.proofs.Common.{◌≡◌, ◌≤ℤ◌, true, arith, lit<, List, [], ◌∷◌}
use Rattle.std.specs.Int.{int_max}
use Rattle.std.proofs.lemmas.Int.{ints, clamps}
use Rattle.plane_terms.specs.Point.{Place, Point}
use Rattle.plane_terms.specs.Rectangle.{Rectangle, RectHolds, RectsMeet, IsProper, IsWithin, rect_at, join_of, rects_meet}
use Rattle.plane_terms.specs.Shape.{Shape, box_from, box_of_places, vertices_of, envelope_of}
use Rattle.number_laws.proofs.Order.{le_from_scaled}
use Rattle.sound_laws.proofs.Pieces.{meeting}

join_proper : (r s : Rectangle) → IsProper r → IsProper (join_of r s)
join_proper r s h = omega (arith, ints, clamps)

box_proper : (r : Rectangle) (ps : List Place) → IsProper r → IsProper (box_from r ps)
box_proper r [] h = h
box_proper r (p ∷ ps) h = box_proper (join_of r (rect_at p)) ps (join_proper r (rect_at p) h)

places_proper : (ps : List Place) → IsProper (box_of_places ps)
places_proper [] = omega (arith, ints)
places_proper (p ∷ ps) = box_proper (rect_at p) ps (omega (arith, ints))

-- the corners of an envelope are in order, whatever the shape
pub envelope_proper : (s : Shape) → IsProper (envelope_of s)
unfolding envelope_of
envelope_proper s = places_proper (vertices_of s)

-- what the test of meeting says
pub meets_test : (r s : Rectangle) → RectsMeet r s → rects_meet r s ≡ true
meets_test r s m =
    let p = m.0 in
    let h = m.1 in
    let k = m.2 in
    let a = le_from_scaled r.x0 s.x1 p.w p.positive (omega (arith, ints)) in
    let b = le_from_scaled s.x0 r.x1 p.w p.positive (omega (arith, ints)) in
    let c = le_from_scaled r.y0 s.y1 p.w p.positive (omega (arith, ints)) in
    let d = le_from_scaled s.y0 r.y1 p.w p.positive (omega (arith, ints)) in
    grind (arith, ints)

-- what meets a rectangle meets one that holds it
pub meets_wider : (r s t : Rectangle) → IsWithin s t → rects_meet r s ≡ true → rects_meet r t ≡ true
meets_wider r s t w e = grind (arith, ints)

-- the least corner of what proper rectangles that meet have in common
common_corner : Rectangle → Rectangle → Point
common_corner r s = record { x = int_max r.x0 s.x0; y = int_max r.y0 s.y0; w = 1; positive = lit< tt }

corner_held : (r s : Rectangle) → IsProper r → (s.x0 ≤ℤ r.x1) → (s.y0 ≤ℤ r.y1) → RectHolds r (common_corner r s)
unfolding common_corner
corner_held r s v h k = omega (arith, ints, clamps)

corner_held_too : (r s : Rectangle) → IsProper s → (r.x0 ≤ℤ s.x1) → (r.y0 ≤ℤ s.y1) → RectHolds s (common_corner r s)
unfolding common_corner
corner_held_too r s v h k = omega (arith, ints, clamps)

pub meets_from_test : (r s : Rectangle) → IsProper r → IsProper s → rects_meet r s ≡ true → RectsMeet r s
meets_from_test r s u v e = let m = meeting r s e in (common_corner r s, corner_held r s u m.1 m.3, corner_held_too r s v m.0 m.2)

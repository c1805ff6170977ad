-- The tests of rectangles, side by side.
use Rattle.std.proofs.Common.{◌≡◌, ◌≤ℤ◌, ◌<ℤ◌, Bool, true, false, ◌&&◌, int_le, arith}
use Rattle.number_laws.proofs.Tests.{Decides-int_le, int_le_false}
use Rattle.plane_terms.specs.Rectangle.{Rectangle, rects_meet}

third_false : (a b c d : Bool) → c ≡ false → false ≡ (a && (b && (c && d)))
third_false a b c d e = grind arith

-- one lies above the other
pub apart_below : (r s : Rectangle) → s.y1 <ℤ r.y0 → false ≡ rects_meet r s
apart_below r s below = third_false (int_le r.x0 s.x1) (int_le s.x0 r.x1) (int_le r.y0 s.y1) (int_le s.y0 r.y1)
    (int_le_false r.y0 s.y1 below)

three_true : (a b c d e : Bool) → a ≡ true → b ≡ true → c ≡ true → e ≡ d → e ≡ (a && (b && (c && d)))
three_true a b c d e i j k l = grind arith

-- the last of the four tests decides
pub apart_or_not : (r s : Rectangle) (e : Bool) → r.x0 ≤ℤ s.x1 → s.x0 ≤ℤ r.x1 → r.y0 ≤ℤ s.y1 → e ≡ int_le s.y0 r.y1 → e ≡ rects_meet r s
apart_or_not r s e i j k l = three_true (int_le r.x0 s.x1) (int_le s.x0 r.x1) (int_le r.y0 s.y1) (int_le s.y0 r.y1) e
    ((Decides-int_le r.x0 s.x1).1 i) ((Decides-int_le s.x0 r.x1).1 j) ((Decides-int_le r.y0 s.y1).1 k) l

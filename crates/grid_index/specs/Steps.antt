-- How many steps a question about a rectangle, its window, may take in an index. A step is a look at a node or at a placed rectangle.
-- Lengths are in grid units. Squares, like middles, are twice as large as the grid shows them.
--
-- one_more n            the count after n and one step more: it stays at the greatest number of 64 binary digits
-- from_edge x           how far the coordinate lies from the western or the southern edge of the grid
-- is_long s p           the test whether a side of the placed rectangle is longer than s
-- comes_near k s a b n  the test whether, along one axis, the square of side 2 to the power k in which n lies comes within half of s of
--                       the stretch from a to b
-- in_range k s w m      the test whether the square in which the middle m lies comes so near to the window w along both axes
-- is_reached k s w p    the test whether the middle of p lies in such a square, or p is longer than s
-- squares_reached k s w ps   how many squares of side 2 to the power k hold the middle of a rectangle of ps that is reached
-- squares_up k s w ps   how many such squares there are of the sides 2, 4, 8 and so on up to 2 to the power k, together
-- shares_middle s w ps p the test whether p has the very middle of one of ps that is reached
-- crowd_reached s w ps  how many of ps have such a middle
-- part_steps k s w ps   the most steps at a node with the rectangles ps, whose middles lie in one square of side 2 to the power k.
--                       It takes one, and 64 for rectangles of its own; each square that is reached adds as much for its four quarters;
--                       and so many rectangles as one likes may have one middle, which no square parts
-- parts_steps k s w ns  the most steps at the nodes ns, each of them such a node
-- most_steps s w ps     the most steps in an index with the rectangles ps, whichever length s is. A square of side 2 to the power 25
--                       holds the whole grid
use Rattle.std.specs.Prelude.{ℕ, zero, suc, ◌+◌, ◌-◌, ◌*◌, ◌/◌, ◌^◌, ℤ, negsuc, ◌-ℤ◌, unsigned_abs, Bool, if◌then◌else◌, ◌&&◌, ◌||◌, List, map, filter, length, nat_le, nat_lt}
use Rattle.std.specs.List.{count_by, list_any}
use Rattle.std.specs.Set.{distinct_count}
use Rattle.plane_terms.specs.Rectangle.{Rectangle}
use Rattle.grid_index.specs.declared.placed.Placed.{Placed}
use Rattle.grid_index.specs.declared.middle.Middle.{Middle}
use Rattle.grid_index.specs.Middles.{middle_of}
use Rattle.grid_index.specs.Nodes.{NodeView, all_items}
use Rattle.grid_index.specs.Squares.{same_square}

abbrev pub one_more : ℕ → ℕ
one_more n = if nat_lt n (2 ^ 64 - 1) then n + 1 else n

abbrev pub from_edge : ℤ → ℕ
from_edge x = unsigned_abs (x -ℤ negsuc 4194303)

abbrev pub is_long : ℕ → Placed → Bool
is_long s p = nat_lt s (unsigned_abs (p.rect.x1 -ℤ p.rect.x0)) || nat_lt s (unsigned_abs (p.rect.y1 -ℤ p.rect.y0))

abbrev pub comes_near : ℕ → ℕ → ℤ → ℤ → ℕ → Bool
comes_near k s a b n = nat_le ((2 * from_edge a - s) / 2 ^ k) (n / 2 ^ k) && nat_le (n / 2 ^ k) ((2 * from_edge b + s) / 2 ^ k)

abbrev pub in_range : ℕ → ℕ → Rectangle → Middle → Bool
in_range k s w m = comes_near k s w.x0 w.x1 m.x && comes_near k s w.y0 w.y1 m.y

abbrev pub is_reached : ℕ → ℕ → Rectangle → Placed → Bool
is_reached k s w p = in_range k s w (middle_of p.rect) || is_long s p

abbrev pub squares_reached : ℕ → ℕ → Rectangle → List Placed → ℕ
squares_reached k s w ps = distinct_count (same_square k) (map (λ (p : Placed). middle_of p.rect) (filter (is_reached k s w) ps))

unfoldable pub squares_up : ℕ → ℕ → Rectangle → List Placed → ℕ
squares_up zero s w ps = 0
squares_up (suc k) s w ps = squares_up k s w ps + squares_reached (suc k) s w ps

abbrev pub shares_middle : ℕ → Rectangle → List Placed → Placed → Bool
shares_middle s w ps p = list_any (λ (q : Placed). same_square 0 (middle_of p.rect) (middle_of q.rect) && is_reached 0 s w q) ps

abbrev pub crowd_reached : ℕ → Rectangle → List Placed → ℕ
crowd_reached s w ps = count_by (shares_middle s w ps) ps

abbrev pub part_steps : ℕ → ℕ → Rectangle → List Placed → ℕ
part_steps k s w ps = 65 + (260 * squares_up k s w ps + crowd_reached s w ps)

abbrev pub parts_steps : ℕ → ℕ → Rectangle → List NodeView → ℕ
parts_steps k s w ns = 65 * length ns + (260 * squares_up k s w (all_items ns) + crowd_reached s w (all_items ns))

abbrev pub most_steps : ℕ → Rectangle → List Placed → ℕ
most_steps s w ps = part_steps 25 s w ps

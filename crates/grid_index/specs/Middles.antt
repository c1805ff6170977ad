-- The middles of rectangles: by their binary digits an index tells quarters of squares apart.
--
-- middle_of r       twice the middle of r, from the western and the southern edge of the grid
-- apart a b         the digits in which a and b differ, along either axis: 1 in each of those places
-- spread m ps       the digits in which the middles of ps differ from m
use Rattle.std.specs.Prelude.{ℕ, ◌+◌, negsuc, ◌-ℤ◌, unsigned_abs, List, bit_or, bit_xor}
use Rattle.std.specs.List.{fold}
use Rattle.plane_terms.specs.Rectangle.{Rectangle}
use Rattle.grid_index.specs.declared.placed.Placed.{Placed}
use Rattle.grid_index.specs.declared.middle.Middle.{Middle}

abbrev pub middle_of : Rectangle → Middle
middle_of r = record {
  x = unsigned_abs (r.x0 -ℤ negsuc 4194303) + unsigned_abs (r.x1 -ℤ negsuc 4194303);
  y = unsigned_abs (r.y0 -ℤ negsuc 4194303) + unsigned_abs (r.y1 -ℤ negsuc 4194303);
}

abbrev pub apart : Middle → Middle → ℕ
apart a b = bit_or (bit_xor a.x b.x) (bit_xor a.y b.y)

abbrev pub spread : Middle → List Placed → ℕ
spread m ps = fold (λ n p. bit_or n (apart m (middle_of p.rect))) 0 ps

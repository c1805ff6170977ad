-- Rectangles beside one another.
--
-- AreBeside r s      r and s have at most a side or a corner in common
use Rattle.std.specs.Prelude.{◌⊎◌, ◌≤ℤ◌}
use Rattle.plane_terms.specs.Rectangle.{Rectangle}

abbrev pub AreBeside : Rectangle → Rectangle → Type 0
AreBeside r s = (r.x1 ≤ℤ s.x0) ⊎ (s.x1 ≤ℤ r.x0) ⊎ (r.y1 ≤ℤ s.y0) ⊎ (s.y1 ≤ℤ r.y0)

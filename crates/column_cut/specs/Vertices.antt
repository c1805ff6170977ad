-- The coordinates of the vertices, as they come and in order.
--
-- ascending vs       the numbers, ascending, each once
-- xs_of ss           the abscissas of both ends of each segment, one after the other
-- ys_at x ss         the ordinates of the ends that are at x
use Rattle.std.specs.Prelude.{ℤ, Bool, cond, ◌&&◌, List, [], ◌∷◌, int_le}
use Rattle.plane_terms.specs.Segment.{Segment}
use Rattle.plane_terms.specs.Columns.{put}

abbrev pub ascending : List ℤ → List ℤ
ascending [] = []
ascending (v ∷ vs) = put v (ascending vs)

abbrev pub xs_of : List Segment → List ℤ
xs_of [] = []
xs_of (s ∷ ss) = s.lo.x ∷ s.hi.x ∷ xs_of ss

abbrev pub is_at : ℤ → ℤ → Bool
is_at v x = int_le v x && int_le x v

abbrev pub ys_at : ℤ → List Segment → List ℤ
ys_at x [] = []
ys_at x (s ∷ ss) =
    let rest = ys_at x ss in
    let low = cond (is_at s.lo.x x) (s.lo.y ∷ rest) rest in
    cond (is_at s.hi.x x) (s.hi.y ∷ low) low

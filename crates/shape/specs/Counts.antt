-- Counting rings and vertices.
--
-- first_short least n rings   the number of the first ring with fewer vertices than `least`, where they are numbered from n on
-- has_bare_part parts         some part has no ring
-- IsFull s                    rings are not lacking, none is short, and 2,000 vertices or fewer are kept
use Rattle.std.specs.Prelude.{ℕ, ◌+◌, ◌≤◌, List, [], ◌∷◌, length, Option, Some, None, Bool, true, false, ◌||◌, cond, nat_lt}
use Rattle.plane_terms.specs.Lists.{Every}
use Rattle.plane_terms.specs.Point.{Place}
use Rattle.plane_terms.specs.Shape.{Shape, rings_of, vertices_of}
use Rattle.plane_terms.specs.ShapeFaults.{least, LacksRings}

abbrev pub first_short : ℕ → ℕ → List (List Place) → Option ℕ
first_short fewest n [] = None
first_short fewest n (ring ∷ rings) = cond (nat_lt (length ring) fewest) (Some n) (first_short fewest (n + 1) rings)

abbrev pub has_no_ring : List (List Place) → Bool
has_no_ring [] = true
has_no_ring (ring ∷ rings) = false

abbrev pub has_bare_part : List (List (List Place)) → Bool
has_bare_part [] = false
has_bare_part (part ∷ parts) = has_no_ring part || has_bare_part parts

pub record IsFull (s : Shape) : Type 0 where
  pub ringed : ¬ (LacksRings s)
  pub long : Every (λ ring. least s.kind ≤ length ring) (rings_of s)
  pub few : length (vertices_of s) ≤ 2000

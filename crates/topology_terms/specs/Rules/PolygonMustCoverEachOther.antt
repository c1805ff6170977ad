-- Must Cover Each Other (polygon, polygon)
--
-- Source: the topology rules poster, for its name; the sentence is our own.
-- Broken by a at p, without a partner: a is on either side, p is inside a, and neither inside nor on the boundary of any polygon of
-- the other side. Both sides are judged.
use Rattle.std.specs.Prelude.{◌≡◌, ◌⊎◌, ℕ, List, Some, if◌then◌else◌}
use Rattle.plane_terms.specs.Point.{Point}
use Rattle.plane_terms.specs.Polygon.{IsInside, IsInClosure}
use Rattle.topology_terms.specs.Feature.{Feature, Side, IsOnSide, is_on_side, NoneOf, feature_at, sides}

-- the side that f is not on
abbrev pub other_side : Side → Side → Feature → Side
other_side A B f = if is_on_side A f then B else A

pub record BrokenAt (A B : Side) (F : List Feature) (a b : ℕ) (p : Point) : Type 0 where
  pub f : Feature
  pub live : feature_at F a ≡ Some f
  pub either : IsOnSide A f ⊎ IsOnSide B f
  pub alone : b ≡ 0
  pub inside : IsInside (sides f) p
  pub none : NoneOf F (other_side A B f) (λ g. IsInClosure (sides g) p)

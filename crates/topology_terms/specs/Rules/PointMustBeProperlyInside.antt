-- Must Be Properly Inside (point, polygon)
--
-- Source: the topology rules poster, for its name; the sentence is our own.
-- Broken by a at p, without a partner: a is at p, and p is inside no polygon of the second side. On a boundary is not inside.
use Rattle.std.specs.Prelude.{◌≡◌, ℕ, List}
use Rattle.plane_terms.specs.Point.{Point, IsAt}
use Rattle.plane_terms.specs.Polygon.{IsInside}
use Rattle.topology_terms.specs.Feature.{Feature, Side, IsOf, NoneOf, sides, place}

pub record BrokenAt (A B : Side) (F : List Feature) (a b : ℕ) (p : Point) : Type 0 where
  pub f : Feature
  pub subject : IsOf F A a f
  pub alone : b ≡ 0
  pub at : IsAt (place f) p
  pub none : NoneOf F B (λ g. IsInside (sides g) p)

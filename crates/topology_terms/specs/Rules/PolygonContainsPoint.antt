-- Contains Point (polygon, point)
--
-- Source: the topology rules poster, for its name; the sentence is our own.
-- Broken by a as a whole: no point of the second side is inside a. One on a's boundary is not inside.
use Rattle.std.specs.Prelude.{ℕ, List}
use Rattle.plane_terms.specs.Point.{Point, IsAt}
use Rattle.plane_terms.specs.Polygon.{IsInside}
use Rattle.topology_terms.specs.Feature.{Feature, Side, IsOf, NoneOf, sides, place}

pub record BrokenWhole (A B : Side) (F : List Feature) (a : ℕ) : Type 0 where
  pub f : Feature
  pub subject : IsOf F A a f
  pub none : NoneOf F B (λ g. (p : Point) × IsAt (place g) p × IsInside (sides f) p)

-- Must Be Covered By Feature Class Of (polygon, polygon)
--
-- Source: the topology rules poster, for its name; the sentence is our own.
-- Broken by a at p, without a partner: p is inside a, and neither inside nor on the boundary of any polygon of the second side.
-- Where two of that side have an edge in common, the edge is covered.
use Rattle.std.specs.Prelude.{◌≡◌, ℕ, List}
use Rattle.plane_terms.specs.Point.{Point}
use Rattle.plane_terms.specs.Polygon.{IsInside, IsInClosure}
use Rattle.topology_terms.specs.Feature.{Feature, Side, IsOf, NoneOf, sides}

pub record BrokenAt (A B : Side) (F : List Feature) (a b : ℕ) (p : Point) : Type 0 where
  pub f : Feature
  pub subject : IsOf F A a f
  pub alone : b ≡ 0
  pub inside : IsInside (sides f) p
  pub none : NoneOf F B (λ g. IsInClosure (sides g) p)

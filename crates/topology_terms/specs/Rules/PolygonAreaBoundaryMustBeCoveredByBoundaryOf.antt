-- Area Boundary Must Be Covered By Boundary Of (polygon, polygon)
--
-- Source: the topology rules poster, for its name; the sentence is our own.
-- Broken by a at p, without a partner: p is on a's boundary and on the boundary of no polygon of the second side.
use Rattle.std.specs.Prelude.{◌≡◌, ℕ, List}
use Rattle.plane_terms.specs.Point.{Point}
use Rattle.plane_terms.specs.Polygon.{OnBoundary}
use Rattle.topology_terms.specs.Feature.{Feature, Side, IsOf, NoneOf, sides}

pub record BrokenAt (A B : Side) (F : List Feature) (a b : ℕ) (p : Point) : Type 0 where
  pub f : Feature
  pub subject : IsOf F A a f
  pub alone : b ≡ 0
  pub boundary : OnBoundary (sides f) p
  pub none : NoneOf F B (λ g. OnBoundary (sides g) p)

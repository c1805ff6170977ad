-- Must Not Overlap With (polygon, polygon)
--
-- Source: the topology rules poster, for its name; the sentence is our own.
-- Broken by a at p with b of the second side: p is inside both. Inside is open: a common edge is no overlap.
use Rattle.std.specs.Prelude.{ℕ, List}
use Rattle.plane_terms.specs.Point.{Point}
use Rattle.plane_terms.specs.Polygon.{IsInside}
use Rattle.topology_terms.specs.Feature.{Feature, Side, IsOf, sides}

pub record BrokenAt (A B : Side) (F : List Feature) (a b : ℕ) (p : Point) : Type 0 where
  pub f : Feature
  pub g : Feature
  pub subject : IsOf F A a f
  pub partner : IsOf F B b g
  pub inside_a : IsInside (sides f) p
  pub inside_b : IsInside (sides g) p

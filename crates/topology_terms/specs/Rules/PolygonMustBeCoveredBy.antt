-- Must Be Covered By (polygon, polygon)
--
-- Source: the topology rules poster, for its name; the sentence is our own.
-- Broken by a as a whole: no polygon of the second side alone holds, inside or on its boundary, each point that is inside a or on
-- a's boundary. Where there is none of that side, a is not covered.
use Rattle.std.specs.Prelude.{ℕ, List}
use Rattle.plane_terms.specs.Point.{Point}
use Rattle.plane_terms.specs.Polygon.{IsInClosure}
use Rattle.topology_terms.specs.Feature.{Feature, Side, IsOf, NoneOf, sides}

pub record BrokenWhole (A B : Side) (F : List Feature) (a : ℕ) : Type 0 where
  pub f : Feature
  pub subject : IsOf F A a f
  pub none : NoneOf F B (λ g. (p : Point) → IsInClosure (sides f) p → IsInClosure (sides g) p)

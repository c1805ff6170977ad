-- Must Not Have Gaps (polygon)
--
-- Source: the topology rules poster, for its name; the sentence is our own.
-- Broken by a at p, without a partner: p is on a's boundary, and as near to p as one likes there is open ground, a point that is
-- neither inside nor on the boundary of any polygon of the side. So the outer boundary of the side is broken too.
use Rattle.std.specs.Prelude.{◌≡◌, ℕ, ◌≤◌, List}
use Rattle.plane_terms.specs.Point.{Point, IsNear}
use Rattle.plane_terms.specs.Polygon.{OnBoundary, IsInClosure}
use Rattle.topology_terms.specs.Feature.{Feature, Side, IsOf, NoneOf, sides}

pub record BrokenAt (A B : Side) (F : List Feature) (a b : ℕ) (p : Point) : Type 0 where
  pub f : Feature
  pub subject : IsOf F A a f
  pub alone : b ≡ 0
  pub boundary : OnBoundary (sides f) p
  -- at every distance 1 / k there is a point closed in no polygon of the class
  pub near : (k : ℕ) → 1 ≤ k → (q : Point) × IsNear k p q × NoneOf F A (λ g. IsInClosure (sides g) q)

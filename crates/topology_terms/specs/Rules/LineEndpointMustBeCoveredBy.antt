-- Endpoint Must Be Covered By (line, point)
--
-- Source: the topology rules poster, for its name; the sentence is our own.
-- Broken by a at p, without a partner: p is an end of a, and no point of the second side is at p.
use Rattle.std.specs.Prelude.{◌≡◌, ℕ, List}
use Rattle.plane_terms.specs.Point.{Point, IsAt}
use Rattle.plane_terms.specs.Line.{IsEnd}
use Rattle.topology_terms.specs.Feature.{Feature, Side, IsOf, NoneOf, place}

pub record BrokenAt (A B : Side) (F : List Feature) (a b : ℕ) (p : Point) : Type 0 where
  pub f : Feature
  pub subject : IsOf F A a f
  pub alone : b ≡ 0
  pub end : IsEnd f.shape p
  pub none : NoneOf F B (λ g. IsAt (place g) p)

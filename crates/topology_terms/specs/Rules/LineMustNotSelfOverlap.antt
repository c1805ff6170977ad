-- Must Not Self-Overlap (line)
--
-- Source: the topology rules poster, for its name; the sentence is our own.
-- Broken by a at p, without a partner: two different segments of a, of one part or of two, overlap, and both hold p.
use Rattle.std.specs.Prelude.{◌≡◌, ℕ, List}
use Rattle.plane_terms.specs.Lists.{SomePair}
use Rattle.plane_terms.specs.Point.{Point}
use Rattle.plane_terms.specs.Segment.{OnSegment, Overlap}
use Rattle.topology_terms.specs.Feature.{Feature, Side, IsOf, sides}

pub record BrokenAt (A B : Side) (F : List Feature) (a b : ℕ) (p : Point) : Type 0 where
  pub f : Feature
  pub subject : IsOf F A a f
  pub alone : b ≡ 0
  pub along : SomePair (λ s t. Overlap s t × OnSegment s p × OnSegment t p) (sides f)

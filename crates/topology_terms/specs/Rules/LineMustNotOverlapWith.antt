-- Must Not Overlap With (line, line)
--
-- Source: the topology rules poster, for its name; the sentence is our own.
-- Broken by a at p with b of the second side: a segment of a and one of b overlap, and both hold p. Lines that cross or touch in a
-- single point do not overlap there; the ends of a stretch in common belong to it.
use Rattle.std.specs.Prelude.{ℕ, List}
use Rattle.plane_terms.specs.Lists.{SomeOf}
use Rattle.plane_terms.specs.Point.{Point}
use Rattle.plane_terms.specs.Segment.{OnSegment, Overlap}
use Rattle.topology_terms.specs.Feature.{Feature, Side, IsOf, sides}

pub record BrokenAt (A B : Side) (F : List Feature) (a b : ℕ) (p : Point) : Type 0 where
  pub f : Feature
  pub g : Feature
  pub subject : IsOf F A a f
  pub partner : IsOf F B b g
  pub along : SomeOf (λ s. SomeOf (λ t. Overlap s t × OnSegment s p × OnSegment t p) (sides g)) (sides f)

-- Must Not Have Dangles (line)
--
-- Source: the topology rules poster, for its name; the sentence is our own.
-- Broken by a at p, without a partner: p is an end of a, and of all segments of all lines of the side just one holds p. That one is
-- a's own. A closed part does not dangle: its first and its last segment both hold its end.
use Rattle.std.specs.Prelude.{◌≡◌, ℕ, List}
use Rattle.plane_terms.specs.Lists.{AreMany}
use Rattle.plane_terms.specs.Point.{Point}
use Rattle.plane_terms.specs.Segment.{Segment, OnSegment}
use Rattle.plane_terms.specs.Line.{IsEnd}
use Rattle.topology_terms.specs.Feature.{Feature, Side, IsOf}
use Rattle.topology_terms.specs.Together.{of_side, sides_all}

pub record BrokenAt (A B : Side) (F : List Feature) (a b : ℕ) (p : Point) : Type 0 where
  pub f : Feature
  pub subject : IsOf F A a f
  pub alone : b ≡ 0
  pub end : IsEnd f.shape p
  pub one_segment : AreMany (λ (t : Segment). OnSegment t p) (sides_all (of_side A F)) 1

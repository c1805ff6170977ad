-- Must Not Have Pseudo Nodes (line)
--
-- Source: the topology rules poster, for its name; the sentence is our own.
-- Broken by a at p, without a partner: p is an end of a, and of all lines of the side just two ends are at p and just two segments
-- hold it. Ends are counted with repeats, so a closed part that meets nothing else has a pseudo node. Where a line
-- passes through p, more segments hold p, and it is no pseudo node.
use Rattle.std.specs.Prelude.{◌≡◌, ℕ, List}
use Rattle.plane_terms.specs.Lists.{AreMany}
use Rattle.plane_terms.specs.Point.{Place, Point, IsAt}
use Rattle.plane_terms.specs.Segment.{Segment, OnSegment}
use Rattle.plane_terms.specs.Line.{IsEnd}
use Rattle.topology_terms.specs.Feature.{Feature, Side, IsOf}
use Rattle.topology_terms.specs.Together.{of_side, sides_all, ends_all}

pub record BrokenAt (A B : Side) (F : List Feature) (a b : ℕ) (p : Point) : Type 0 where
  pub f : Feature
  pub subject : IsOf F A a f
  pub alone : b ≡ 0
  pub end : IsEnd f.shape p
  pub two_ends : AreMany (λ (q : Place). IsAt q p) (ends_all (of_side A F)) 2
  pub two_segments : AreMany (λ (t : Segment). OnSegment t p) (sides_all (of_side A F)) 2

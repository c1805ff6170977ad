-- Must Not Self-Intersect (line)
--
-- Source: the topology rules poster, for its name; the sentence is our own.
-- Broken by a at p, without a partner: p is no end of a, and two different segments of a hold p, unless they are neighbours in one part
-- that have p alone in common. The first and the last segment of a part are no neighbours, but where a part is closed they meet in an
-- end.
use Rattle.std.specs.Prelude.{◌≡◌, ℕ, List}
use Rattle.plane_terms.specs.Point.{Point}
use Rattle.plane_terms.specs.Line.{IsEnd}
use Rattle.topology_terms.specs.Feature.{Feature, Side, IsOf}
use Rattle.topology_terms.specs.Crossings.{IsCrossed}

pub record BrokenAt (A B : Side) (F : List Feature) (a b : ℕ) (p : Point) : Type 0 where
  pub f : Feature
  pub subject : IsOf F A a f
  pub alone : b ≡ 0
  pub crossed : IsCrossed f p
  pub no_end : ¬ (IsEnd f.shape p)

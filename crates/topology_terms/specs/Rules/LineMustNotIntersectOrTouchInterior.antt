-- Must Not Intersect Or Touch Interior (line)
--
-- Source: the topology rules poster, for its name; the sentence is our own.
-- Broken by a at p with b: a comes first, p is on both, and is not an end of both. Lines may meet at ends of both alone.
use Rattle.std.specs.Prelude.{ℕ, ◌<◌, List}
use Rattle.plane_terms.specs.Point.{Point}
use Rattle.plane_terms.specs.Line.{OnLine, IsEnd}
use Rattle.topology_terms.specs.Feature.{Feature, Side, IsOf}

pub record BrokenAt (A B : Side) (F : List Feature) (a b : ℕ) (p : Point) : Type 0 where
  pub f : Feature
  pub g : Feature
  pub subject : IsOf F A a f
  pub partner : IsOf F A b g
  pub first : a < b
  pub on_a : OnLine f.shape p
  pub on_b : OnLine g.shape p
  pub not_ends : ¬ (IsEnd f.shape p × IsEnd g.shape p)

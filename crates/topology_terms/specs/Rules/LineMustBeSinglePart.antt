-- Must Be Single Part (line)
--
-- Source: the topology rules poster, for its name; the sentence is our own.
-- Broken by a as a whole: a has more than one part.
use Rattle.std.specs.Prelude.{ℕ, ◌<◌, List, length}
use Rattle.topology_terms.specs.Feature.{Feature, Side, IsOf}

pub record BrokenWhole (A B : Side) (F : List Feature) (a : ℕ) : Type 0 where
  pub f : Feature
  pub subject : IsOf F A a f
  pub more : 1 < length f.shape.parts

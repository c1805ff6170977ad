-- Must Not Intersect (line)
--
-- Source: the topology rules poster, for its name; the sentence is our own.
-- Broken by a at p with b: a comes first, and p is inner to both: on both, and an end of neither. An end that touches the inner part
-- of another line does not break this rule, but Must Not Intersect Or Touch Interior.
use Rattle.std.specs.Prelude.{ℕ, ◌<◌, List}
use Rattle.plane_terms.specs.Point.{Point}
use Rattle.plane_terms.specs.Line.{IsInner}
use Rattle.topology_terms.specs.Feature.{Feature, Side, IsOf}

pub record BrokenAt (A B : Side) (F : List Feature) (a b : ℕ) (p : Point) : Type 0 where
  pub f : Feature
  pub g : Feature
  pub subject : IsOf F A a f
  pub partner : IsOf F A b g
  pub first : a < b
  pub inner_a : IsInner f.shape p
  pub inner_b : IsInner g.shape p

-- Must Be Covered By Feature Class Of (line, line)
--
-- Source: the topology rules poster, for its name; the sentence is our own.
-- Broken by a at p, without a partner: p is on a and on no line of the second side.
use Rattle.std.specs.Prelude.{◌≡◌, ℕ, List}
use Rattle.plane_terms.specs.Point.{Point}
use Rattle.plane_terms.specs.Line.{OnLine}
use Rattle.topology_terms.specs.Feature.{Feature, Side, IsOf, NoneOf}

pub record BrokenAt (A B : Side) (F : List Feature) (a b : ℕ) (p : Point) : Type 0 where
  pub f : Feature
  pub subject : IsOf F A a f
  pub alone : b ≡ 0
  pub on_line : OnLine f.shape p
  pub none : NoneOf F B (λ g. OnLine g.shape p)

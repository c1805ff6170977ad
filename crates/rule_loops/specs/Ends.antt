-- The ends of lines that do not count as points in common.
--
-- ends_by which s t    the ends of the line s; those of s, then those of t; or those of s at which t has an end too
use Rattle.std.specs.Prelude.{List, ◌++◌, filter}
use Rattle.plane_terms.specs.Point.{Place}
use Rattle.plane_terms.specs.Shape.{Shape, ends_of}
use Rattle.topology_terms.specs.Tests.{has_end_at}
use Rattle.rule_loops.specs.declared.off_ends.Spared.{Spared}
use Rattle.rule_loops.specs.declared.off_ends.Spared.TheVariants.{OfFirst, OfEither, OfBoth}

abbrev pub ends_by : Spared → Shape → Shape → List Place
ends_by OfFirst s t = ends_of s
ends_by OfEither s t = ends_of s ++ ends_of t
ends_by OfBoth s t = filter (has_end_at (ends_of t)) (ends_of s)

-- What of its subject an error or a finding is of.
--
-- is_whole x       it is of the whole subject, and else of the points of its cells
use Rattle.std.specs.Prelude.{Bool, true, false}
use Rattle.topology_terms.specs.declared.extent.Extent.{Extent}
use Rattle.topology_terms.specs.declared.extent.Extent.TheVariants.{Whole, Cells}

abbrev pub is_whole : Extent → Bool
is_whole Whole = true
is_whole Cells = false

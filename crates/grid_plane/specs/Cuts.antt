-- What two segments have in common, when it is more than a touch.
--
-- is_cut share            they cross or run along each other
use Rattle.std.specs.Prelude.{Bool, true, false}
use Rattle.plane_terms.specs.declared.share.Share.{Share}
use Rattle.plane_terms.specs.declared.share.Share.TheVariants.{Nothing, Along, Cross, Touch}

abbrev pub is_cut : Share → Bool
is_cut Nothing = false
is_cut Along = true
is_cut Cross = true
is_cut Touch = false

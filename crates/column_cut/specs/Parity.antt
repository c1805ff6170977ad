-- Every other slot of a column.
--
-- is_even k          the slots 0, 2, .. are meant, which lie outside
use Rattle.std.specs.Prelude.{Bool, true, false}
use Rattle.column_cut.specs.declared.parity.Parity.{Parity}
use Rattle.column_cut.specs.declared.parity.Parity.TheVariants.{Odd, Even}

abbrev pub is_even : Parity → Bool
is_even Odd = false
is_even Even = true

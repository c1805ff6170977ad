use Rattle.std.proofs.Common.{◌≡◌, ◌++◌}
use Rattle.town_terms.specs.Town.{each_below, parcel_line}
use Rattle.town_maker.proofs.rows.push_parcels.Given as goal

abbrev pub invariant-loop-column : goal.invariant-loop-column
invariant-loop-column l = l.out.items ≡ l.initial.out.items ++ each_below l.column (parcel_line l.row)

use Rattle.std.proofs.Common.{◌≡◌, ◌++◌}
use Rattle.town_terms.specs.Town.{each_below, address_line}
use Rattle.town_maker.proofs.rows.push_addresses.Given as goal

abbrev pub invariant-loop-column : goal.invariant-loop-column
invariant-loop-column l = l.out.items ≡ l.initial.out.items ++ each_below l.column (address_line l.town.seed l.town.rows l.row)

use Rattle.std.proofs.Common.{◌≡◌, ◌++◌}
use Rattle.town_terms.specs.Town.{each_below, late_line}
use Rattle.town_maker.proofs.rows.push_late_addresses.Given as goal

abbrev pub invariant-loop-row : goal.invariant-loop-row
invariant-loop-row l = l.out.items ≡ l.initial.out.items ++ each_below l.row (late_line l.town.seed l.town.rows)

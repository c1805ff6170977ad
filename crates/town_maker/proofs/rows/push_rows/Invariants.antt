use Rattle.std.proofs.Common.{◌≡◌, ◌++◌}
use Rattle.town_terms.specs.Town.{each_below, row_text}
use Rattle.town_maker.proofs.rows.push_rows.Given as goal

abbrev pub invariant-loop-row : goal.invariant-loop-row
invariant-loop-row l = l.out.items ≡ l.initial.out.items ++ each_below l.row (row_text l.town.seed l.town.rows)

use Rattle.town_terms.specs.Town.{late_line}
use Rattle.town_maker.proofs.Pieces.{one_more}
use Rattle.town_maker.proofs.rows.push_late_addresses.Goals as goal

pub loop-row-preserved : goal.loop-row-preserved
loop-row-preserved c = one_more (late_line c.args.town.now.seed c.args.town.now.rows) c.loop-row.row _ _ _ c.loop-row.invariant
    c.in_ok-push_late_address.ensures

use Rattle.town_terms.specs.Town.{address_line}
use Rattle.town_maker.proofs.Pieces.{one_more}
use Rattle.town_maker.proofs.rows.push_addresses.Goals as goal

pub loop-column-preserved : goal.loop-column-preserved
loop-column-preserved c = one_more (address_line c.args.town.now.seed c.args.town.now.rows c.args.row) c.loop-column.column _ _ _
    c.loop-column.invariant c.in_ok-push_address_at.ensures

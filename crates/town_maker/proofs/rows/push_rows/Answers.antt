use Rattle.town_terms.specs.Town.{row_text}
use Rattle.town_maker.proofs.Pieces.{one_more}
use Rattle.town_maker.proofs.rows.push_rows.Goals as goal

pub loop-row-preserved : goal.loop-row-preserved
loop-row-preserved c = one_more (row_text c.args.town.now.seed c.args.town.now.rows) c.loop-row.row _ _ _ c.loop-row.invariant
    c.in_ok-push_row.ensures

use Rattle.town_terms.specs.Town.{parcel_line}
use Rattle.town_maker.proofs.Pieces.{one_more}
use Rattle.town_maker.proofs.rows.push_parcels.Goals as goal

pub loop-column-preserved : goal.loop-column-preserved
loop-column-preserved c = one_more (parcel_line c.args.row) c.loop-column.column _ _ _ c.loop-column.invariant c.in_ok-push_parcel.ensures

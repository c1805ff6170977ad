use Rattle.text_out.proofs.Pushing.{in_three}
use Rattle.town_maker.proofs.rows.push_row.Goals as goal

pub returns : goal.returns
returns c = in_three _ _ _ _ _ _ _ _ c.in_ok-push_parcels.ensures c.in_ok-push_addresses.ensures c.push_road_of.ensures

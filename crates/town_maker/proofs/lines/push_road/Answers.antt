use Rattle.text_out.proofs.Pushing.{in_three}
use Rattle.town_maker.proofs.lines.push_road.Goals as goal

pub returns : goal.returns
returns c = in_three _ _ _ _ _ _ _ _ c.in_ok-push_text.ensures c.in_ok-push_street.ensures c.push_end.ensures

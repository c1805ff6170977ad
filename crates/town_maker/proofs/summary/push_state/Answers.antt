use Rattle.text_out.proofs.Pushing.{in_three}
use Rattle.town_maker.proofs.summary.push_state.Goals as goal

pub returns : goal.returns
returns c = in_three _ _ _ _ _ _ _ _ c.in_ok-push_count.ensures c.in_ok-push_count-2.ensures c.push_byte_sum.ensures

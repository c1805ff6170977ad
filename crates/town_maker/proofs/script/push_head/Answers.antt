use Rattle.text_out.proofs.Pushing.{in_three}
use Rattle.town_maker.proofs.script.push_head.Goals as goal

pub returns : goal.returns
returns c = in_three _ _ _ _ _ _ _ _ c.in_ok-push_text.ensures c.in_ok-push_text-2.ensures c.push_text-3.ensures

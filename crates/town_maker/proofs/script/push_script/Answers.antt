use Rattle.text_out.proofs.Pushing.{in_three}
use Rattle.town_maker.proofs.script.push_script.Goals as goal

pub returns : goal.returns
returns c = in_three _ _ _ _ _ _ _ _ c.in_ok-push_head.ensures c.in_ok-push_rows.ensures c.push_validations.ensures

use Rattle.edit_session.proofs.HandleLists.{above_last}
use Rattle.edit_session.proofs.handles.is_above.Goals as goal

pub returns-in-Some : goal.returns-in-Some
returns-in-Some c = above_last c.args.rising.now c.in-Some.last.now c.args.handle c.in-Some.ensures.item.3.0 c.in-Some.ensures.item.1

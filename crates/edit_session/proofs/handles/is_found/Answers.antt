use Rattle.edit_session.proofs.HandleLists.{found_any}
use Rattle.edit_session.proofs.handles.is_found.Goals as goal

pub returns : goal.returns
returns c = found_any c.args.rising.now c.args.handle c.binary_search.result c.is_ok.result c.requires c.binary_search.ensures.position
    c.is_ok.ensures.value

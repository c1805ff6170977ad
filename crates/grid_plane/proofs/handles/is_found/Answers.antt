use Rattle.grid_plane.proofs.Found.{found_is}
use Rattle.grid_plane.proofs.handles.is_found.Goals as goal

pub returns : goal.returns
returns c = found_is c.args.items.now c.args.handle c.binary_search.result c.is_ok.result c.requires c.binary_search.ensures.position
    c.is_ok.ensures.value

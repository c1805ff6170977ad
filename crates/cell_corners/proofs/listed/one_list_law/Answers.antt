use Rattle.cell_corners.proofs.OneList.{one_list}
use Rattle.cell_corners.proofs.listed.one_list_law.Goals as goal

pub returns : goal.returns
returns c = one_list 1 c.args.cells.now

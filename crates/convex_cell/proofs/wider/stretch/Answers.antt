use Rattle.convex_cell.proofs.Searches.{round_through}
use Rattle.convex_cell.proofs.wider.stretch.Goals as goal

pub returns : goal.returns
returns c = round_through _ _ _ c.stretch_down.ensures (round_through _ _ _ c.stretch_on.ensures c.stretch_left.ensures)

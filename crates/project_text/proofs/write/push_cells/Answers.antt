use Rattle.plane_terms.specs.Cell.{Cell}
use Rattle.project_text.specs.Pushed.{cell_text}
use Rattle.text_out.proofs.Pushing.{said_more}
use Rattle.project_text.proofs.write.push_cells.Goals as goal

pub loop-i-preserved : goal.loop-i-preserved
loop-i-preserved c = said_more {X = Cell} cell_text _ _ _ _ _ _ c.cell.ensures c.loop-i.invariant c.in_ok-push_cell_line.ensures

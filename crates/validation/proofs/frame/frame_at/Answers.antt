use Rattle.plane_terms.specs.Point.{Point}
use Rattle.plane_terms.specs.Rectangle.{RectHolds, whole_grid}
use Rattle.plane_terms.specs.Cell.{Cell, InCell, HasPoint}
use Rattle.plane_terms.proofs.ListLemmas.{every_got}
use Rattle.validation.proofs.frame.frame_at.Goals as goal

pub frame-requires-clause-some : goal.frame-requires-clause-some
frame-requires-clause-some c = every_got HasPoint c.args.cells.now c.args.i c.cell.result c.requires.points c.cell.ensures

pub frame-requires-clause-on_grid : goal.frame-requires-clause-on_grid
frame-requires-clause-on_grid c = every_got (λ (d : Cell). (p : Point) → InCell d p → RectHolds whole_grid p) c.args.cells.now c.args.i
    c.cell.result c.requires.on_grid c.cell.ensures

use Rattle.plane_terms.specs.Point.{Point}
use Rattle.plane_terms.specs.Rectangle.{RectHolds, whole_grid}
use Rattle.plane_terms.specs.Cell.{Cell, InCell, HasPoint}
use Rattle.plane_terms.proofs.ListLemmas.{every_got}
use Rattle.validation.proofs.frame.widened_at.Goals as goal

pub widen-requires-clause-some : goal.widen-requires-clause-some
widen-requires-clause-some c = every_got HasPoint c.args.cells.now c.args.i c.cell.result c.requires.points c.cell.ensures

pub widen-requires-clause-on_grid : goal.widen-requires-clause-on_grid
widen-requires-clause-on_grid c = every_got (λ (d : Cell). (p : Point) → InCell d p → RectHolds whole_grid p) c.args.cells.now c.args.i
    c.cell.result c.requires.on_grid c.cell.ensures

use Rattle.std.proofs.lemmas.Bool.{false≢true}
use Rattle.plane_terms.proofs.ListLemmas.{every_got}
use Rattle.plane_terms.specs.Cell.{HasPoint}
use Rattle.sound_check.proofs.Rests.{have_more}
use Rattle.sound_check.proofs.within.have_points.Goals as goal

pub returns-then-is_empty : goal.returns-then-is_empty
returns-then-is_empty c = (
  λ k. absurd (false≢true k),
  λ h. absurd (c.if-is_empty.ensures.empty (every_got HasPoint c.args.cells.now c.loop-i.i c.cell.result h c.cell.ensures)),
)

pub loop-i-preserved : goal.loop-i-preserved
loop-i-preserved c = have_more c.args.cells.now c.loop-i.i c.cell.result c.cell.ensures c.loop-i.invariant
    (c.if-is_empty.ensures.point, tt)

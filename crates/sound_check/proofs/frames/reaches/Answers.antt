use Rattle.std.proofs.Common.{refl, subst, arith, ◌∙◌}
use Rattle.std.proofs.lemmas.Bool.{false≢true}
use Rattle.std.proofs.lemmas.List.{take_all}
use Rattle.sound_check.specs.Frames.{Reaches}
use Rattle.sound_check.proofs.Sides.{reached, not_reached}
use Rattle.sound_check.proofs.frames.reaches.Goals as goal

pub loop-i-init : goal.loop-i-init
loop-i-init c = λ k. k.1

pub returns-then-not-is_empty : goal.returns-then-not-is_empty
returns-then-not-is_empty c = (
  λ k. reached c.args.half c.args.cells.now c.loop-i.i c.cell.result c.borrow.result c.in_ok-there.there c.cell.ensures
      (c.borrow.ensures ∙ c.in_ok-side.ensures) c.in_ok-there.ensures.points c.if-not-is_empty.ensures.point,
  λ r. refl,
)

pub loop-i-preserved : goal.loop-i-preserved
loop-i-preserved c = not_reached c.args.half c.args.cells.now c.loop-i.i c.cell.result c.borrow.result c.in_ok-there.there c.cell.ensures
    (c.borrow.ensures ∙ c.in_ok-side.ensures) c.in_ok-there.ensures.points c.if-not-is_empty.ensures.empty c.loop-i.invariant

pub returns : goal.returns
returns c = (
  λ k. absurd (false≢true k),
  λ r. absurd (subst (λ ds. ¬ (Reaches c.args.half ds)) (take_all c.loop-i.i c.args.cells.now (omega arith)) c.loop-i.invariant r),
)

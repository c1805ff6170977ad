use Rattle.std.proofs.Common.{◌≡◌, ◌-◌, arith, get_or, []}
use Rattle.plane_terms.specs.Cell.{Cell}
use Rattle.validation.proofs.CellFrames.{some_cell, frame_begun, frame_widened, frame_ended}
use Rattle.validation.proofs.frame.frame_of.Goals as goal

pub loop-i-init : goal.loop-i-init
loop-i-init c = frame_begun c.args.cells.now (c.len-last.result - 1) c.frame_at-frame.result
    (omega (arith, c.len-last.ensures, some_cell c.args.cells.now c.requires.some)) c.frame_at-frame.ensures

pub loop-i-preserved : goal.loop-i-preserved
loop-i-preserved c =
    let last : Cell = get_or c.args.cells.now (c.len-last.result - 1) [] in
    frame_widened c.args.cells.now last c.loop-i.i c.loop-i.frame c.widened_at-frame.result
    (omega (arith, c.len-last.ensures, c.loop-i-test.true)) c.loop-i.invariant c.widened_at-frame.ensures

pub returns : goal.returns
returns c =
    let end : c.loop-i.i ≡ c.len-last.result - 1 = omega (arith, c.loop-i-test.false, c.loop-i.auto.i-end) in
    frame_ended c.args.cells.now (c.len-last.result - 1) c.loop-i.frame
    (omega (arith, c.len-last.ensures, some_cell c.args.cells.now c.requires.some)) (rw end at c.loop-i.invariant)

use Rattle.sound_check.proofs.Sides.{holds_test}
use Rattle.sound_check.proofs.frames.holds_all.Goals as goal

pub returns : goal.returns
returns c = holds_test c.args.frame.now c.args.cells.now c.in_ok-outside.outside c.in_ok-there.there c.len.result
    c.in_ok-outside.ensures.points c.in_ok-there.ensures c.len.ensures

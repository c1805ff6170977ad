use Rattle.std.proofs.Common.{◌↔◌, IsTrue}
use Rattle.plane_terms.specs.Cell.{IsLeastFrame}
use Rattle.convex_cell.proofs.Results.{if_ok}
use Rattle.sound_check.specs.Frames.{ReachesSides}
use Rattle.sound_check.proofs.Sides.{least_test}
use Rattle.sound_check.proofs.frames.is_least_frame.Goals as goal

pub returns : goal.returns
returns c =
    let r = c.args.frame.now in
    let cs = c.args.cells.now in
    if_ok (λ yes. IsTrue yes ↔ ReachesSides r cs) (λ yes. IsTrue yes ↔ IsLeastFrame r cs) _
    (λ yes t. least_test r cs yes (c.in_ok-holds_all.ensures.0 c.if-not-branch.false) t) c.reaches_sides.ensures

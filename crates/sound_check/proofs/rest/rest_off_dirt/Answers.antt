use Rattle.std.proofs.Common.{sym, subst}
use Rattle.std.proofs.lemmas.Result.{IfOk-weaker}
use Rattle.dirty_area.specs.Parts.{AreNear}
use Rattle.dirty_area.proofs.Indexes.{in_some}
use Rattle.sound_check.specs.Frames.{HoldsAll}
use Rattle.sound_check.proofs.Rests.{rest_near}
use Rattle.sound_check.proofs.rest.rest_off_dirt.Goals as goal

pub returns-in_ok-near-in-Some : goal.returns-in_ok-near-in-Some
returns-in_ok-near-in-Some c =
    let d = c.args.dirt.now in
    let cs = c.args.cells in
    let f = c.in-Some.frame in
    let held : HoldsAll f cs = in_some (λ r. HoldsAll r cs) c.in_ok-frame.field-0 f c.in-Some.is c.in_ok-frame.ensures in
    let near : AreNear d f c.deref.result.now = subst (AreNear d f) (sym c.deref.ensures.value) c.in_ok-near-in-Some.ensures in
    IfOk-weaker c.rest_off_rects.result _ _ (λ made. rest_near f d c.deref.result.now cs made held near)
    (rw c.cells.view_is at c.rest_off_rects.ensures)

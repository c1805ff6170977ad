use Rattle.std.proofs.Common.{◌∙◌, ap, subst}
use Rattle.std.specs.Prelude.{IfOk}
use Rattle.dirty_area.specs.Blocks.{all_rects}
use Rattle.dirty_area.specs.Parts.{AreNear}
use Rattle.dirty_area.proofs.dirt.Dirt.near.Goals as goal

pub returns : goal.returns
returns c = subst (λ d. IfOk c.near.result (λ ms. AreNear d c.args.r.now ms.items)) (ap all_rects c.deref.ensures.value ∙ c.self.view_is) c.near.ensures

use Rattle.std.proofs.Common.{arith}
use Rattle.std.proofs.lemmas.Grind.{common_steps}
use Rattle.text_out.proofs.Values.{as_number}
use Rattle.text_out.proofs.plane.push_rect.Goals as goal

pub returns : goal.returns
returns c = grind (
  arith,
  common_steps,
  as_number _ _ c.x0.ensures.bound c.x0.ensures.value,
  as_number _ _ c.y0.ensures.bound c.y0.ensures.value,
  as_number _ _ c.x1.ensures.bound c.x1.ensures.value,
  as_number _ _ c.y1.ensures.bound c.y1.ensures.value,
)

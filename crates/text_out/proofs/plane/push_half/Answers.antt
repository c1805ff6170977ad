use Rattle.std.proofs.Common.{arith}
use Rattle.std.proofs.lemmas.Grind.{common_steps}
use Rattle.text_out.proofs.Values.{x_factor, y_factor, constant}
use Rattle.text_out.proofs.plane.push_half.Goals as goal

pub returns : goal.returns
returns c = grind (
  arith,
  common_steps,
  x_factor _ _ c.a.ensures.valid c.a.ensures.value,
  y_factor _ _ c.b.ensures.valid c.b.ensures.value,
  constant _ _ c.c.ensures.valid c.c.ensures.value,
)

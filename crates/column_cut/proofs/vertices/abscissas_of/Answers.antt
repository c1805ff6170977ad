use Rattle.std.proofs.Common.{◌∙◌}
use Rattle.column_cut.proofs.Ascending.{abscissas_are}
use Rattle.column_cut.proofs.vertices.abscissas_of.Goals as goal

pub returns : goal.returns
returns c = c.in_ok-ascending.ensures ∙ (c.in_ok-values.ensures.value ∙ abscissas_are c.args.segments.now)

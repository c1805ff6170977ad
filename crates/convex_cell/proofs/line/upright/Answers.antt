use Rattle.std.proofs.Common.{sym, subst}
use Rattle.plane_terms.specs.HalfPlane.{HalfPlane, Holds}
use Rattle.convex_cell.proofs.Sums.{line_turned}
use Rattle.convex_cell.proofs.line.upright.Goals as goal

pub returns-then-b-lt0-clause-on : goal.returns-then-b-lt0-clause-on
returns-then-b-lt0-clause-on c = λ q h.
    subst (λ (l : HalfPlane). Holds l q) (sym c.turned.ensures) (line_turned c.args.line.now q c.requires h)

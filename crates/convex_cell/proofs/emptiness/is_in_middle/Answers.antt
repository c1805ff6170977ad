use Rattle.std.proofs.Common.{append-nil, subst}
use Rattle.std.specs.Bool.{OnTrue}
use Rattle.plane_terms.specs.Cell.{Cell, HasPoint}
use Rattle.convex_cell.proofs.emptiness.is_in_middle.Goals as goal

pub returns : goal.returns
returns c = subst (λ (hs : Cell). OnTrue c.is_in_both.result (HasPoint hs)) (append-nil c.args.halves.now) c.is_in_both.ensures

use Rattle.std.proofs.Common.{append-nil, subst}
use Rattle.plane_terms.specs.Cell.{Cell}
use Rattle.convex_cell.specs.Shadow.{IsShadow}
use Rattle.convex_cell.proofs.Shadows.{shadow_by_pairs}
use Rattle.convex_cell.proofs.line.shadow_of.Goals as goal

pub returns-in-Some-clause-shadow : goal.returns-in-Some-clause-shadow
returns-in-Some-clause-shadow c =
    subst (λ (hs : Cell). IsShadow c.args.direction hs c.in-Some.range) (append-nil c.args.halves.now) c.in-Some.ensures.shadow

pub returns-in-None-clause-shadow : goal.returns-in-None-clause-shadow
returns-in-None-clause-shadow c = shadow_by_pairs c.args.direction c.args.halves.now c.range_of.result c.range_of.ensures.both

use Rattle.std.proofs.Common.{◌↔◌, subst}
use Rattle.plane_terms.specs.Cell.{Cell}
use Rattle.plane_terms.specs.Corners.{IsCorner}
use Rattle.cell_corners.specs.Listed.{Stands}
use Rattle.cell_corners.proofs.corners.Corners.of.Goals as goal

pub returns-clause-exact : goal.returns-clause-exact
returns-clause-exact c = λ p.
    subst (λ (hs : Cell). IsCorner hs p ↔ Stands c.in_ok-corners_of.field-0.items p) c.halves.ensures (c.in_ok-corners_of.ensures.exact p)

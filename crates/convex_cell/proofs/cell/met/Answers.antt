use Rattle.std.proofs.Common.{◌↔◌, subst, sym}
use Rattle.plane_terms.specs.Point.{Point}
use Rattle.plane_terms.specs.Cell.{Cell, InCell}
use Rattle.cell_laws.proofs.Meets.{meet_points}
use Rattle.convex_cell.proofs.cell.met.Goals as goal

pub returns-clause-points : goal.returns-clause-points
returns-clause-points c =
    let a = c.args.first.now in
    let b = c.args.second.now in
    subst (λ (cell : Cell). (p : Point) → InCell cell p ↔ (InCell a p × InCell b p)) (sym c.in_ok-meet_halves.ensures) (meet_points a b)

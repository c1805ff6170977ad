use Rattle.plane_terms.specs.Cell.{InCell, InCells}
use Rattle.convex_cell.proofs.Results.{if_ok}
use Rattle.sound_check.specs.Rest.{IsRest}
use Rattle.sound_check.proofs.Rests.{rest_as}
use Rattle.sound_check.proofs.off.rest_off_cell.Goals as goal

pub returns : goal.returns
returns c =
    let cs = c.args.cells.now in
    let out = c.in_ok-outside.outside in
    if_ok (IsRest (InCells out) cs) (IsRest (λ p. ¬ (InCell c.args.other.now p)) cs) _
    (λ made r. rest_as (InCells out) (λ p. ¬ (InCell c.args.other.now p)) cs made c.in_ok-outside.ensures.points r) c.common.ensures

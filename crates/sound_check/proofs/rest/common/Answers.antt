use Rattle.std.proofs.Common.{◌≡◌}
use Rattle.plane_terms.specs.Cell.{InCells}
use Rattle.plane_terms.specs.Carve.{carve_of}
use Rattle.convex_cell.proofs.Results.{if_ok}
use Rattle.sound_check.specs.Rest.{IsRest}
use Rattle.sound_check.proofs.Rests.{carved_rest}
use Rattle.sound_check.proofs.rest.common.Goals as goal

pub returns : goal.returns
returns c =
    let cs = c.args.cells.now in
    let ds = c.args.by.now in
    if_ok (λ made. made ≡ carve_of cs ds) (IsRest (InCells ds) cs) _ (λ made e. carved_rest cs ds made e) c.carve.ensures.value

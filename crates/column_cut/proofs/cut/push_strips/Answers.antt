use Rattle.std.proofs.Common.{◌≡◌, ◌∙◌, ap}
use Rattle.plane_terms.specs.Columns.{last}
use Rattle.column_cut.specs.Parity.{is_even}
use Rattle.column_cut.proofs.Steps.{last_is}
use Rattle.column_cut.proofs.Reached.{all_done}
use Rattle.column_cut.proofs.cut.push_strips.Goals as goal

pub returns : goal.returns
returns c =
    let greatest : c.unwrap_or.result.now ≡ last c.args.first.now c.args.rest.now = ap (λ b. b.now) c.unwrap_or.ensures
    ∙ last_is c.last.result c.args.first c.args.rest.now c.last.ensures.value in
    all_done c.push_last_wall.result (is_even c.args.parity) c.args.segments.now c.args.first.now c.unwrap_or.result.now c.args.rest.now
    greatest c.args.cells.now c.push_halves.new.cells c.push_last_wall.new.cells c.in_ok-push_halves.ensures c.push_last_wall.ensures

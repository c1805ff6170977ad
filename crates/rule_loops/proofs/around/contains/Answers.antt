use Rattle.std.proofs.Common.{◌∙◌, ap}
use Rattle.plane_terms.specs.Point.{Place}
use Rattle.plane_terms.specs.Shape.{Shape, place_of}
use Rattle.topology_terms.specs.Plans.{is_round}
use Rattle.rule_loops.proofs.around.contains.Goals as goal

pub returns : goal.returns
returns c = c.is_at.ensures
    ∙ ap (λ (q : Place). is_round c.args.polygon.now q) (c.place.ensures.value ∙ ap (λ (s : Shape). place_of s) c.shape.ensures)

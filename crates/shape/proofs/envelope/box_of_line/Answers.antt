use Rattle.std.proofs.Common.{◌∙◌, sym, ap, subst, List}
use Rattle.plane_terms.specs.Lists.{Every}
use Rattle.plane_terms.specs.Point.{Place, IsInReach}
use Rattle.plane_terms.specs.Rectangle.{Rectangle}
use Rattle.plane_terms.specs.Shape.{box_from}
use Rattle.shape.specs.Given.{rings_in, all_vertices}
use Rattle.shape.proofs.Filled.{line_vertices}
use Rattle.shape.proofs.Held.{line_box}
use Rattle.shape.proofs.envelope.box_of_line.Goals as goal

pub returns-clause-value : goal.returns-clause-value
returns-clause-value c =
    line_box c.args.parts.now c.index-parts-0.result c.index.result.now c.widen_by_rings.result c.requires c.index-parts-0.is
    c.index.ensures (c.widen_by_rings.ensures.value
    ∙ ap (λ (r : Rectangle). box_from r (all_vertices (rings_in c.args.parts.now))) c.round.ensures.value)

pub returns-clause-reach : goal.returns-clause-reach
returns-clause-reach c =
    subst (λ (vs : List Place). Every IsInReach vs) (sym (line_vertices c.args.parts.now)) c.widen_by_rings.ensures.reach

use Rattle.std.proofs.Common.{subst}
use Rattle.plane_terms.specs.Lists.{Every}
use Rattle.plane_terms.specs.Segment.{IsSegment}
use Rattle.plane_terms.specs.Shape.{Shape, segments_of}
use Rattle.rule_loops.proofs.More.{of_beside}
use Rattle.rule_loops.proofs.HeldBy.{none_of_held}
use Rattle.rule_loops.proofs.alongside.is_covered_at_once.Goals as goal

pub returns-then-lies_on_feature : goal.returns-then-lies_on_feature
returns-then-lies_on_feature c =
    let s = c.args.segment.now in
    let g = c.feature-other.result.now in
    none_of_held s c.args.side c.args.view.now c.loop-i.i g c.feature-other.ensures
    (of_beside c.args.side s g c.if-lies_on_feature.ensures.beside) c.lo.ensures.valid.proper
    (subst (λ (h : Shape). Every IsSegment (segments_of h)) c.shape.ensures c.simple_law.ensures.proper) c.if-lies_on_feature.ensures.held

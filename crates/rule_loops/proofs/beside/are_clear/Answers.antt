use Rattle.std.proofs.Common.{◌≡◌, ◌∙◌, ap}
use Rattle.std.proofs.lemmas.Bool.{OnTrue_at, OnTrue_from}
use Rattle.plane_terms.specs.Shape.{Shape, envelope_of, segments_of}
use Rattle.topology_terms.specs.Feature.{env}
use Rattle.rule_loops.specs.Beside.{AreBeside}
use Rattle.rule_loops.specs.Stacked.{AreStacked}
use Rattle.rule_loops.proofs.Neighbours.{beside_common}
use Rattle.rule_loops.proofs.Stacking.{stacked_common}
use Rattle.rule_loops.proofs.beside.are_clear.Goals as goal

pub returns-then-are_beside : goal.returns-then-are_beside
returns-then-are_beside c =
    let f = c.args.subject.now in
    let g = c.args.partner.now in
    let own : c.env.result ≡ env f = c.env.ensures ∙ ap (λ (s : Shape). envelope_of s) c.shape-own.ensures in
    let other : c.env-then-are_polygons.result ≡ env g = c.env-then-are_polygons.ensures
    ∙ ap (λ (s : Shape). envelope_of s) c.shape-other.ensures in
    OnTrue_from _ _ (λ t. beside_common f g (OnTrue_at c.if-are_polygons.true c.are_polygons.ensures.subject)
    (OnTrue_at c.if-are_polygons.true c.are_polygons.ensures.polygon)
    (rw (own, other) at (OnTrue_at {P = AreBeside c.env.result c.env-then-are_polygons.result} t c.are_beside.ensures)))

pub returns-else-are_beside : goal.returns-else-are_beside
returns-else-are_beside c =
    OnTrue_from _ _ (λ t. stacked_common c.args.subject.now c.args.partner.now
    (OnTrue_at c.if-are_polygons.true c.are_polygons.ensures.subject) (OnTrue_at c.if-are_polygons.true c.are_polygons.ensures.polygon)
    (rw (c.shape-own.ensures, c.shape-other.ensures) at
    (OnTrue_at {P = AreStacked (segments_of c.shape-own.result.now) (segments_of c.shape-other.result.now)} t c.are_stacked.ensures)))

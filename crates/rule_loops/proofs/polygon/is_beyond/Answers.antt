use Rattle.std.proofs.Common.{◌≡◌, sym, ◌∙◌, ap}
use Rattle.std.specs.List.{list_any}
use Rattle.std.proofs.lemmas.Bool.{OnTrue_at, OnTrue_from}
use Rattle.plane_terms.specs.Rectangle.{Rectangle}
use Rattle.plane_terms.specs.Shape.{Shape, segments_of, envelope_of}
use Rattle.topology_terms.specs.Feature.{sides, env}
use Rattle.rule_loops.specs.Views.{is_out}
use Rattle.rule_loops.proofs.Beyond.{beyond}
use Rattle.rule_loops.proofs.polygon.is_beyond.Goals as goal

pub returns-then-are_polygons : goal.returns-then-are_polygons
returns-then-are_polygons c =
    let f = c.args.subject.now in
    let g = c.args.polygon.now in
    let segments : c.segs.result.now ≡ sides f = c.segs.ensures.value
    ∙ ap (λ (s : Shape). segments_of s) c.shape-then-are_polygons.ensures in
    let frame : c.env-frame.result ≡ env g = c.env-frame.ensures ∙ ap (λ (s : Shape). envelope_of s) c.shape.ensures in
    let out : c.sticks_out.result ≡ list_any (is_out (env g)) (sides f) = c.sticks_out.ensures
    ∙ (ap (λ (r : Rectangle). list_any (is_out r) c.segs.result.now) frame ∙ ap (list_any (is_out (env g))) segments) in
    OnTrue_from _ _ (λ t. beyond f g (OnTrue_at c.if-are_polygons.true c.are_polygons.ensures.subject)
    (OnTrue_at c.if-are_polygons.true c.are_polygons.ensures.polygon) (sym out ∙ t))

use Rattle.std.proofs.Common.{Bool, sym, ◌∙◌, ap, arith}
use Rattle.std.specs.Prelude.{◌&&◌, not}
use Rattle.topology_terms.specs.Feature.{Feature, is_on_side, place}
use Rattle.topology_terms.specs.Plans.{is_round}
use Rattle.rule_laws.proofs.Tests.{any_there, none_more, none_in_all}
use Rattle.fix_tools.proofs.Sides.{any_kept}
use Rattle.fix_tools.proofs.ask.none_inside.Goals as goal

pub returns-then-is_point_in : goal.returns-then-is_point_in
returns-then-is_point_in c =
    let at : Feature → Bool = λ (h : Feature). is_round c.args.polygon.now (place h) in
    let kept : Feature → Bool = is_on_side c.args.side in
    let V = c.args.view.now in
    sym (ap not (any_kept kept at V ∙ any_there (λ h. kept h && at h) V c.loop-i.i c.feature.result.now c.feature.ensures
    (sym c.is_point_in.ensures ∙ c.if-is_point_in.true)))

pub loop-i-preserved : goal.loop-i-preserved
loop-i-preserved c =
    none_more (λ (h : Feature). is_on_side c.args.side h && is_round c.args.polygon.now (place h)) c.args.view.now c.loop-i.i
    c.feature.result.now c.feature.ensures (sym c.is_point_in.ensures ∙ c.if-is_point_in.false) c.loop-i.invariant

pub returns : goal.returns
returns c =
    let at : Feature → Bool = λ (h : Feature). is_round c.args.polygon.now (place h) in
    let kept : Feature → Bool = is_on_side c.args.side in
    let V = c.args.view.now in
    sym (ap not (any_kept kept at V ∙ none_in_all (λ h. kept h && at h) V c.loop-i.i (omega arith) c.loop-i.invariant))

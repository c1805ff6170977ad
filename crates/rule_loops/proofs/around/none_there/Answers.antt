use Rattle.std.proofs.Common.{Bool, sym, ◌∙◌, ap, arith}
use Rattle.std.specs.Prelude.{◌&&◌, not}
use Rattle.topology_terms.specs.Feature.{Feature, is_on_side}
use Rattle.rule_laws.proofs.Tests.{any_there, none_more, none_in_all}
use Rattle.rule_loops.proofs.Seen.{any_kept}
use Rattle.rule_loops.proofs.around.none_there.Goals as goal

pub returns-then-is_there : goal.returns-then-is_there
returns-then-is_there g c =
    let at : Feature → Bool = λ (h : Feature). g.T.AtPlace.at h c.args.place in
    let kept : Feature → Bool = is_on_side c.args.side in
    let V = c.args.view.now in
    sym (ap not (any_kept kept at V ∙ any_there (λ h. kept h && at h) V c.loop-i.i c.feature.result.now c.feature.ensures
    (sym c.is_there.ensures ∙ c.if-is_there.true)))

pub loop-i-preserved : goal.loop-i-preserved
loop-i-preserved g c = none_more (λ (h : Feature). is_on_side c.args.side h && g.T.AtPlace.at h c.args.place) c.args.view.now c.loop-i.i
    c.feature.result.now c.feature.ensures (sym c.is_there.ensures ∙ c.if-is_there.false) c.loop-i.invariant

pub returns : goal.returns
returns g c =
    let at : Feature → Bool = λ (h : Feature). g.T.AtPlace.at h c.args.place in
    let kept : Feature → Bool = is_on_side c.args.side in
    let V = c.args.view.now in
    sym (ap not (any_kept kept at V ∙ none_in_all (λ h. kept h && at h) V c.loop-i.i (omega arith) c.loop-i.invariant))

use Rattle.std.proofs.Common.{Bool, sym, ◌∙◌, arith}
use Rattle.std.specs.Prelude.{◌&&◌, ◌==◌, not}
use Rattle.topology_terms.specs.Feature.{Feature, is_on_side}
use Rattle.topology_terms.specs.Plans.{has_side_at}
use Rattle.rule_laws.proofs.Tests.{any_there, none_more, none_in_all}
use Rattle.fix_tools.proofs.Sides.{any_kept}
use Rattle.fix_tools.proofs.ask.holds_other.Goals as goal

pub returns-then-is_other_at : goal.returns-then-is_other_at
returns-then-is_other_at c =
    let at : Feature → Bool = λ (h : Feature). not (h.handle == c.args.feature.now.handle) && has_side_at h c.args.place in
    let kept : Feature → Bool = is_on_side c.args.side in
    let V = c.args.view.now in
    sym (any_kept kept at V ∙ any_there (λ h. kept h && at h) V c.loop-i.i c.feature.result.now c.feature.ensures
    (sym c.is_other_at.ensures ∙ c.if-is_other_at.true))

pub loop-i-preserved : goal.loop-i-preserved
loop-i-preserved c =
    none_more (λ (h : Feature). is_on_side c.args.side h && (not (h.handle == c.args.feature.now.handle) && has_side_at h c.args.place))
    c.args.view.now c.loop-i.i c.feature.result.now c.feature.ensures (sym c.is_other_at.ensures ∙ c.if-is_other_at.false)
    c.loop-i.invariant

pub returns : goal.returns
returns c =
    let at : Feature → Bool = λ (h : Feature). not (h.handle == c.args.feature.now.handle) && has_side_at h c.args.place in
    let kept : Feature → Bool = is_on_side c.args.side in
    let V = c.args.view.now in
    sym (any_kept kept at V ∙ none_in_all (λ h. kept h && at h) V c.loop-i.i (omega arith) c.loop-i.invariant)

use Rattle.std.proofs.Common.{Bool, sym, ◌∙◌, arith}
use Rattle.std.specs.Prelude.{◌&&◌}
use Rattle.topology_terms.specs.Feature.{Feature, is_on_side}
use Rattle.rule_laws.proofs.Tests.{any_there, none_more, none_in_all}
use Rattle.rule_loops.proofs.Seen.{any_kept}
use Rattle.rule_loops.proofs.partners.any_passes.Goals as goal

pub returns-then-branch-clause-any : goal.returns-then-branch-clause-any
returns-then-branch-clause-any g c =
    let test : Feature → Bool = g.T.Test.test c.args.test.now in
    let kept : Feature → Bool = is_on_side c.args.side in
    let V = c.args.view.now in
    sym (any_kept kept test V ∙ any_there (λ h. kept h && test h) V c.loop-i.i c.feature.result.now c.feature.ensures
    (sym c.in_ok-passes_in.ensures.passes ∙ c.if-branch.true))

pub loop-i-preserved : goal.loop-i-preserved
loop-i-preserved g c = record {
  none = none_more (λ (h : Feature). is_on_side c.args.side h && g.T.Test.test c.args.test.now h) c.args.view.now c.loop-i.i
      c.feature.result.now c.feature.ensures (sym c.in_ok-passes_in.ensures.passes ∙ c.if-branch.false) c.loop-i.invariant.none;
  uncounted = c.passes_in.ensures.uncounted ∙ c.loop-i.invariant.uncounted;
}

pub returns-clause-any : goal.returns-clause-any
returns-clause-any g c =
    let test : Feature → Bool = g.T.Test.test c.args.test.now in
    let kept : Feature → Bool = is_on_side c.args.side in
    let V = c.args.view.now in
    sym (any_kept kept test V ∙ none_in_all (λ h. kept h && test h) V c.loop-i.i (omega arith) c.loop-i.invariant.none)

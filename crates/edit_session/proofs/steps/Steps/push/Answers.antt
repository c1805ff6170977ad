use Rattle.std.proofs.Common.{◌≡◌, ◌∷◌, ◌++◌, ◌∙◌, [], sym, ap, subst, arith}
use Rattle.session_terms.specs.Kept.{KeptStep}
use Rattle.edit_session.specs.StepLists.{StepList, steps_of, kept_in}
use Rattle.edit_session.proofs.KeptSteps.{step_count, steps_more}
use Rattle.edit_session.proofs.steps.Steps.push.Goals as goal

pub returns-clause-items : goal.returns-clause-items
returns-clause-items c =
    let hs = c.self.inside.handles.items in
    let h = c.step.inside.handle in
    let at = kept_in c.self.inside.kept in
    let bt = kept_in c.put.new.kept in
    let more = ap (steps_of bt) c.push.ensures.items
    ∙ steps_more at bt hs h c.len-index.result c.step.inside.kept (sym c.len-index.ensures) c.put.ensures.put in
    subst (λ (v : StepList). steps_of bt c.push.new.self.items ≡ v.items ++ c.args.step ∷ []) c.self.view_is
    (subst (λ (s : KeptStep). steps_of bt c.push.new.self.items ≡ steps_of at hs ++ s ∷ []) c.step.view_is more)

pub returns-clause-few : goal.returns-clause-few
returns-clause-few c = omega (arith, step_count (kept_in c.put.new.kept) c.push.new.self.items, c.push.ensures.few)

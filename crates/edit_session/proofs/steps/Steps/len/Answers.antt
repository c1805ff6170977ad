use Rattle.std.proofs.Common.{◌≡◌, ◌∙◌, sym, subst, length}
use Rattle.edit_session.specs.StepLists.{StepList, kept_in}
use Rattle.edit_session.proofs.KeptSteps.{step_count}
use Rattle.edit_session.proofs.steps.Steps.len.Goals as goal

pub returns : goal.returns
returns c = subst (λ (v : StepList). c.len.result ≡ length v.items) c.self.view_is
    (c.len.ensures ∙ sym (step_count (kept_in c.self.inside.kept) c.self.inside.handles.items))

use Rattle.std.proofs.Common.{◌≡◌, ◌∙◌, sym, subst, eqb}
use Rattle.std.specs.List.{list_any}
use Rattle.session_terms.specs.Kept.{KeptStep}
use Rattle.edit_session.specs.StepLists.{StepList, kept_in}
use Rattle.edit_session.proofs.KeptSteps.{steps_any}
use Rattle.edit_session.proofs.steps.Steps.has.Goals as goal

pub returns : goal.returns
returns c = subst (λ (v : StepList). c.has.result ≡ list_any (λ (t : KeptStep). eqb t.handle c.args.handle) v.items) c.self.view_is
    (c.has.ensures ∙ sym (steps_any (kept_in c.self.inside.kept) c.self.inside.handles.items c.args.handle))

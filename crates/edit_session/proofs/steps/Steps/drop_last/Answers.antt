use Rattle.std.proofs.Common.{◌≡◌, ◌-◌, ◌∷◌, ◌++◌, ◌∙◌, [], List, None, sym, ap, subst, arith, length, take}
use Rattle.session_terms.specs.Kept.{KeptStep}
use Rattle.edit_session.specs.StepLists.{StepList, steps_of, kept_in}
use Rattle.edit_session.proofs.KeptSteps.{steps_end, steps_same, put_other, take_end}
use Rattle.edit_session.proofs.steps.Steps.drop_last.Goals as goal

pub returns-clause-items : goal.returns-clause-items
returns-clause-items c =
    let hs = c.pop.new.self.items in
    let h = c.in-Some.field-0 in
    let at = kept_in c.self.inside.kept in
    let bt = kept_in c.take.new.kept in
    let t : KeptStep = record { handle = h; kept = at (length hs) } in
    let same = steps_same at bt hs (λ i l. put_other at bt c.len-index.result None c.take.ensures.taken i
    (λ e. absurd (omega (arith, e, l, c.len-index.ensures)))) in
    let old : steps_of at c.self.inside.handles.items ≡ steps_of at hs ++ t ∷ [] = ap (steps_of at) c.in-Some.ensures.last
    ∙ steps_end at hs h in
    subst (λ (v : StepList). steps_of bt hs ≡ take (length v.items - 1) v.items) c.self.view_is
    (same ∙ subst (λ (us : List KeptStep). steps_of at hs ≡ take (length us - 1) us) (sym old) (take_end (steps_of at hs) t))

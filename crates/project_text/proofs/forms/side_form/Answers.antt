use Rattle.std.proofs.Common.{sym, ap, ◌∙◌}
use Rattle.project_terms.specs.Verdicts.{side_form}
use Rattle.project_text.proofs.Sides.{whole_side, cut_side, no_cut_side}
use Rattle.project_text.proofs.forms.side_form.Goals as goal

pub returns-in-None : goal.returns-in-None
returns-in-None c = c.plain_side.ensures ∙ sym (whole_side c.args.typed c.args.field.now c.in-None.ensures)

pub returns-then-typed : goal.returns-then-typed
returns-then-typed c =
    c.bound_side.ensures ∙ (sym (cut_side c.args.field.now c.in-Some.front.now c.in-Some.digits.now c.in-Some.ensures)
    ∙ ap (λ t. side_form t c.args.field.now) (sym c.if-typed.true))

pub returns-else-typed : goal.returns-else-typed
returns-else-typed c =
    sym (ap (λ t. side_form t c.args.field.now) c.if-typed.false
    ∙ no_cut_side c.args.field.now c.in-Some.front.now c.in-Some.digits.now c.in-Some.ensures)

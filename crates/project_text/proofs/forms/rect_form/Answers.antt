use Rattle.project_text.proofs.FieldForms.{rect_short_at}
use Rattle.project_text.proofs.forms.rect_form.Goals as goal

pub returns-in_err-y1 : goal.returns-in_err-y1
returns-in_err-y1 c =
    rw c.from_residual-in_err-y1.ensures (rect_short_at _ _ _ _ _ _ _ c.in_ok-x0.ensures.0 c.in_ok-y0.ensures.0 c.in_ok-x1.ensures.0
    c.in_err-y1.ensures)

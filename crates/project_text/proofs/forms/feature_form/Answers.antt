use Rattle.project_text.proofs.FieldForms.{fits, feature_said_at, feature_unnamed_at}
use Rattle.project_text.proofs.forms.feature_form.Goals as goal

pub returns-in_err-own_form : goal.returns-in_err-own_form
returns-in_err-own_form c =
    rw c.from_residual-in_err-own_form.ensures
    (feature_unnamed_at c.args.typed _ _ _ _ _ c.in_ok-handle.ensures.0 c.in_ok-class.ensures.0 c.in_err-own_form.ensures)

pub returns : goal.returns
returns c =
    rw (fits c.in_ok-handle.handle.now c.in_ok-read_number.field-0 c.in_ok-read_number.ensures)
    (feature_said_at c.args.typed _ _ _ _ _ _ _ _ c.in_ok-handle.ensures.0
    c.in_ok-class.ensures.0 c.in_ok-wkt.ensures c.in_ok-read_number.ensures c.in_ok-own_form.ensures)

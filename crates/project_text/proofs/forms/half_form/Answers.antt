use Rattle.project_text.proofs.FieldForms.{fits, half_said_at}
use Rattle.project_text.proofs.forms.half_form.Goals as goal

pub returns-clause-said : goal.returns-clause-said
returns-clause-said c =
    rw (
      fits c.in_ok-a.a.now c.in_ok-read_number.field-0 c.in_ok-read_number.ensures,
      fits c.in_ok-b.b.now c.in_ok-read_number-2.field-0 c.in_ok-read_number-2.ensures,
      fits c.in_ok-c.c.now c.in_ok-read_number-3.field-0 c.in_ok-read_number-3.ensures,
    )
    (half_said_at _ _ _ _ _ _ _ _ _ _ _ _ _ _ c.in_ok-a.ensures.0 c.in_ok-b.ensures.0 c.in_ok-c.ensures.0 c.in_ok-sign.ensures.0
    c.in_ok-read_number.ensures c.in_ok-read_number-2.ensures c.in_ok-read_number-3.ensures c.in_ok-op.ensures)

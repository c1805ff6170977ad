use Rattle.std.proofs.Common.{refl}
use Rattle.script_text.proofs.Spelled.{numbers_read}
use Rattle.script_text.proofs.validations.read_numbers.Goals as goal

pub returns-in_err-x0 : goal.returns-in_err-x0
returns-in_err-x0 c = rw c.from_residual.ensures (λ r p. (rw c.next_field.ensures.field at c.in_err-x0.ensures) r.x0 p.0)

pub returns-in_err-y0 : goal.returns-in_err-y0
returns-in_err-y0 c =
    rw c.from_residual-in_err-y0.ensures
    (λ r p. (rw (c.next_field-2.ensures.field, c.next_field.ensures.rest) at c.in_err-y0.ensures) r.y0 p.1.0)

pub returns-in_err-x1 : goal.returns-in_err-x1
returns-in_err-x1 c =
    rw c.from_residual-in_err-x1.ensures
    (λ r p. (rw (c.next_field-3.ensures.field, c.next_field-2.ensures.rest, c.next_field.ensures.rest) at c.in_err-x1.ensures) r.x1 p.1.1.0)

pub returns-in_err-y1 : goal.returns-in_err-y1
returns-in_err-y1 c =
    rw c.from_residual-in_err-y1.ensures
    (λ r p.
    (rw (c.next_field-4.ensures.field, c.next_field-3.ensures.rest, c.next_field-2.ensures.rest, c.next_field.ensures.rest)
    at c.in_err-y1.ensures) r.y1 p.1.1.1.0)

pub returns : goal.returns
returns c =
    let f0 = rw c.next_field.ensures.field at c.in_ok-x0.ensures in
    let f1 = rw c.next_field-2.ensures.field at c.in_ok-y0.ensures in
    let f2 = rw c.next_field-3.ensures.field at c.in_ok-x1.ensures in
    let f3 = rw c.next_field-4.ensures.field at c.in_ok-y1.ensures in
    numbers_read c.args.text.now c.next_field.result.1.now c.next_field-2.result.1.now c.next_field-3.result.1.now
    c.next_field-4.result.1.now c.in_ok-x0.x0 c.in_ok-y0.y0 c.in_ok-x1.x1 c.in_ok-y1.y1 f0 c.next_field.ensures.rest f1
    c.next_field-2.ensures.rest f2 c.next_field-3.ensures.rest f3 c.next_field-4.ensures.rest (c.if-not-is_over.ensures.0 refl)

use Rattle.std.proofs.Common.{refl}
use Rattle.script_text.proofs.FixLines.{place_read}
use Rattle.script_text.proofs.fixes.read_place.Goals as goal

pub returns-in_err-x : goal.returns-in_err-x
returns-in_err-x c = rw c.from_residual.ensures (λ q p. (rw c.next_field.ensures.field at c.in_err-x.ensures) q.x p.0)

pub returns-in_err-y : goal.returns-in_err-y
returns-in_err-y c =
    rw c.from_residual-in_err-y.ensures
    (λ q p. (rw (c.next_field-2.ensures.field, c.next_field.ensures.rest) at c.in_err-y.ensures) q.y p.1.0)

pub returns : goal.returns
returns c =
    let f0 = rw c.next_field.ensures.field at c.in_ok-x.ensures in
    let f1 = rw c.next_field-2.ensures.field at c.in_ok-y.ensures in
    place_read c.args.text.now c.next_field.result.1.now c.next_field-2.result.1.now c.in_ok-x.x c.in_ok-y.y f0 c.next_field.ensures.rest f1
    c.next_field-2.ensures.rest (c.if-not-is_over.ensures.0 refl)

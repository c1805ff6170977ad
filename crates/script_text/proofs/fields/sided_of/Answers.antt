use Rattle.script_text.proofs.Sides.{no_named, no_bound}
use Rattle.script_text.proofs.fields.sided_of.Goals as goal

pub returns-in_err-name : goal.returns-in_err-name
returns-in_err-name c =
    rw c.from_residual-in_err-name.ensures
    (λ a h. no_named c.args.field.now c.in_ok-front.front.now c.in_ok-front.digits.now a c.in_ok-front.ensures c.in_err-name.ensures h)

pub returns-in_err-subtype : goal.returns-in_err-subtype
returns-in_err-subtype c =
    rw c.from_residual-in_err-subtype.ensures
    (λ a h. no_bound c.args.field.now c.in_ok-front.front.now c.in_ok-front.digits.now a c.in_ok-front.ensures c.in_err-subtype.ensures h)

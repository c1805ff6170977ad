use Rattle.std.proofs.Common.{arith, sym, ◌∙◌}
use Rattle.text_fields.proofs.Short.{short}
use Rattle.text_fields.proofs.numeral.short_digits.Goals as goal

pub returns : goal.returns
returns c = short c.args.negative c.args.digits.now c.short_value-n.result.1.now c.short_value-n.result.0 c.signed.result
    c.short_value-n.ensures.value c.short_value-n.ensures.behind (sym c.has_number_byte.ensures ∙ c.if-has_number_byte.false)
    c.if-rest-digits.false (omega arith) c.signed.ensures

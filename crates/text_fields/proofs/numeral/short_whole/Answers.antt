use Rattle.std.proofs.lemmas.Option.{IfSome_then}
use Rattle.text_fields.proofs.Short.{plain, minus}
use Rattle.text_fields.proofs.numeral.short_whole.Goals as goal

pub returns-then-first-eq45 : goal.returns-then-first-eq45
returns-then-first-eq45 c =
    IfSome_then c.short_digits.result c.short_digits.ensures
    (λ x h. minus c.args.text.now x.0 x.1.now c.in-len1-up.len_at_least c.if-first-eq45.true h)

pub returns-else-first-eq45 : goal.returns-else-first-eq45
returns-else-first-eq45 c =
    IfSome_then c.short_digits-else-first-eq45.result c.short_digits-else-first-eq45.ensures
    (λ x h. plain c.args.text.now x.0 x.1.now h)

use Rattle.std.proofs.Common.{sym, ◌∙◌, arith}
use Rattle.rule_core.specs.Kept.{size_of}
use Rattle.rule_core.proofs.Totals.{new_weighs, over_weighs}
use Rattle.rule_core.proofs.keeping.put.Goals as goal

pub overflow_sub-result : goal.overflow_sub-result
overflow_sub-result c =
    let w = over_weighs size_of c.args.cache.now c.args.handle c.args.kept c.in-Some.old (sym c.in_ok-old.ensures.old ∙ c.in-Some.is) in
    omega (arith, w, c.halves.ensures, c.halves-more.ensures, c.requires.total)

pub returns-in-Some-clause-total : goal.returns-in-Some-clause-total
returns-in-Some-clause-total c =
    let w = over_weighs size_of c.args.cache.now c.args.handle c.args.kept c.in-Some.old (sym c.in_ok-old.ensures.old ∙ c.in-Some.is) in
    rw c.in_ok-old.ensures.entries (omega (arith, w, c.halves.ensures, c.halves-more.ensures, c.requires.total))

pub returns-in-None-clause-total : goal.returns-in-None-clause-total
returns-in-None-clause-total c =
    let w = new_weighs size_of c.args.cache.now c.args.handle c.args.kept (sym c.in_ok-old.ensures.old ∙ c.in-None.is)
    c.requires.fewer in
    rw c.in_ok-old.ensures.entries (omega (arith, w, c.halves-more.ensures, c.requires.total))

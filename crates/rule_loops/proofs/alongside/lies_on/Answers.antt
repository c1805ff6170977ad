use Rattle.std.proofs.Common.{sym, ◌∙◌, ap}
use Rattle.plane_terms.specs.Line.{holds_place}
use Rattle.rule_loops.proofs.HeldBy.{held_when}
use Rattle.rule_loops.proofs.alongside.lies_on.Goals as goal

pub returns-then-is_on : goal.returns-then-is_on
returns-then-is_on c =
    let s = c.args.segment.now in
    let t = c.args.other.now in
    held_when s t c.is_on-then-is_on.result c.lo.ensures.valid.proper (ap (holds_place t) (sym c.lo.ensures.value) ∙ sym c.if-is_on.ensures)
    (c.is_on-then-is_on.ensures ∙ ap (holds_place t) c.hi.ensures.value)

use Rattle.std.proofs.Common.{◌∙◌, sym, ap, arith, ◌+◌, ℕ}
use Rattle.shape.specs.Given.{rings_in as lists_of}
use Rattle.wkt_text.specs.Open.{first_open}
use Rattle.wkt_text.proofs.FirstOpen.{left, in_part, past_part, counted}
use Rattle.wkt_text.proofs.closing.first_open.Goals as goal

pub returns-then-is_some : goal.returns-then-is_some
returns-then-is_some c =
    sym (in_part c.loop-part.from c.args.parts.now c.loop-part.part-index c.part-item.result c.first_open_ring-open.result
    c.loop-part-test.true c.part-item.is (sym c.is_some.ensures ∙ c.if-is_some.true) (c.first_open_ring-open.ensures
    ∙ ap (λ rs. first_open c.loop-part.from (lists_of rs)) c.deref.ensures.value)) ∙ c.loop-part.invariant.1

pub loop-part-preserved : goal.loop-part-preserved
loop-part-preserved c =
    let i = c.loop-part.part-index in
    let p = c.part-item.result in
    let ps = c.args.parts.now in
    let past =
    past_part c.loop-part.from ps i p c.first_open_ring-open.result c.loop-part-test.true c.part-item.is (sym c.is_some.ensures
    ∙ c.if-is_some.false) (c.first_open_ring-open.ensures ∙ ap (λ rs. first_open c.loop-part.from (lists_of rs)) c.deref.ensures.value)
    in (
      omega (arith, c.loop-part.invariant.0, counted ps i p c.loop-part-test.true c.part-item.is, c.len.ensures, p.ok),
      ap (λ (n : ℕ). first_open (c.loop-part.from + n) (left ps (i + 1))) (omega (arith, c.len.ensures, p.ok)) ∙ sym past
          ∙ c.loop-part.invariant.1,
    )

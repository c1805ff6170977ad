use Rattle.std.proofs.Common.{◌∙◌, sym, ap, arith, ◌+◌, ℕ, drop}
use Rattle.shape.specs.Given.{rings_in, polygons_in, all_rings}
use Rattle.shape.specs.Counts.{first_short}
use Rattle.shape.proofs.Shorts.{short_in_part, short_past_part, counted_past_part}
use Rattle.shape.proofs.counts.first_short_ring.Goals as goal

pub returns-then-is_some : goal.returns-then-is_some
returns-then-is_some c =
    sym (short_in_part c.loop-part.from c.args.parts.now c.loop-part.part-index c.part-item.result c.first_short-short.result
    c.loop-part-test.true c.part-item.is (sym c.is_some.ensures ∙ c.if-is_some.true) (c.first_short-short.ensures
    ∙ ap (λ rs. first_short 3 c.loop-part.from (rings_in rs)) c.deref.ensures.value)) ∙ c.loop-part.invariant.1

pub loop-part-preserved : goal.loop-part-preserved
loop-part-preserved c =
    let i = c.loop-part.part-index in
    let p = c.part-item.result in
    let ps = c.args.parts.now in
    let past =
    short_past_part c.loop-part.from ps i p c.first_short-short.result c.loop-part-test.true c.part-item.is (sym c.is_some.ensures
    ∙ c.if-is_some.false) (c.first_short-short.ensures ∙ ap (λ rs. first_short 3 c.loop-part.from (rings_in rs)) c.deref.ensures.value)
    in (
      omega (arith, c.loop-part.invariant.0, counted_past_part ps i p c.loop-part-test.true c.part-item.is, c.len.ensures, p.ok),
      ap (λ (n : ℕ). first_short 3 (c.loop-part.from + n) (all_rings (polygons_in (drop (i + 1) ps)))) (omega (arith, c.len.ensures, p.ok))
          ∙ sym past ∙ c.loop-part.invariant.1,
    )

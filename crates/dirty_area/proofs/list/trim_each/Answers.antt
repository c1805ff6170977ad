use Rattle.std.proofs.Common.{ap, ◌∙◌, arith}
use Rattle.dirty_area.specs.Blocks.{runs, joined}
use Rattle.dirty_area.proofs.Changes.{next_trimmed, all_trimmed}
use Rattle.dirty_area.proofs.Joins.{length_runs}
use Rattle.dirty_area.proofs.list.trim_each.Goals as goal

pub loop-place-preserved : goal.loop-place-preserved
loop-place-preserved c =
    let h = c.loop-place.invariant in
    let bs = c.args.blocks.now.items in (
      next_trimmed c.args.r.now c.loop-place.place (runs bs) (runs c.loop-place.blocks.items) (runs c.trim.new.blocks.items)
          (omega (arith, c.loop-place-test.true, h.2, length_runs bs, length_runs c.loop-place.blocks.items)) h.0 c.trim.ensures.trimmed,
      (λ n k. c.trim.ensures.room n (h.1 n k)),
      c.trim.ensures.len ∙ h.2,
      c.trim.ensures.indexed,
      c.trim.ensures.number,
    )

pub returns-clause-held : goal.returns-clause-held
returns-clause-held c =
    let bs = c.args.blocks.now.items in
    ap joined c.loop-place.invariant.0 ∙ all_trimmed c.args.r.now c.loop-place.place (runs bs)
    (omega (arith, c.loop-place-test.false, length_runs bs, c.loop-place.invariant.2))

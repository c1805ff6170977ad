use Rattle.std.proofs.Common.{ap, sym, ◌∙◌, set}
use Rattle.dirty_area.specs.Blocks.{runs}
use Rattle.dirty_area.proofs.Changes.{patched_pushed}
use Rattle.dirty_area.proofs.cut.put_changes.Goals as goal

pub loop-change-preserved : goal.loop-change-preserved
loop-change-preserved c =
    let h = c.loop-change.invariant in
    let xss = runs c.args.blocks.now.items in
    let d = c.in-Some.change in (
      c.put_change.ensures.put ∙ (ap (λ yss. set yss d.place d.block.items) h.0 ∙ sym (patched_pushed xss c.loop-change.yielded d)),
      c.put_change.ensures.len ∙ h.1,
      c.put_change.ensures.indexed,
      c.put_change.ensures.number,
    )

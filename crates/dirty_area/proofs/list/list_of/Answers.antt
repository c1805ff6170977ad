use Rattle.std.proofs.Common.{ap, sym, ◌∙◌, ◌++◌, arith}
use Rattle.std.proofs.lemmas.List.{take_all}
use Rattle.dirty_area.specs.Blocks.{all_rects}
use Rattle.dirty_area.proofs.Joins.{rects_more}
use Rattle.dirty_area.proofs.list.list_of.Goals as goal

pub loop-block-preserved : goal.loop-block-preserved
loop-block-preserved c =
    let i = c.loop-block.block-index in
    let b = c.block-item.result in
    c.in_ok-extend_from_slice.ensures.items ∙ (ap (λ xs. c.loop-block.rects.items ++ xs) c.rects.ensures
    ∙ (ap (λ xs. xs ++ b.items) c.loop-block.invariant ∙ sym (rects_more c.args.blocks.now i b c.loop-block-test.true c.block-item.is)))

pub returns : goal.returns
returns c = c.loop-block.invariant ∙ ap all_rects (take_all c.loop-block.block-index c.args.blocks.now (omega arith))

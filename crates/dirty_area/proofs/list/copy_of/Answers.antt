use Rattle.std.proofs.Common.{[], ◌∷◌, ◌++◌, take, ap, sym, ◌∙◌, arith}
use Rattle.std.proofs.lemmas.List.{take_all}
use Rattle.dirty_area.specs.Blocks.{runs}
use Rattle.dirty_area.proofs.Joins.{runs_more, runs_pushed}
use Rattle.dirty_area.proofs.list.copy_of.Goals as goal

pub loop-block-preserved : goal.loop-block-preserved
loop-block-preserved c =
    let i = c.loop-block.block-index in
    let b = c.block-item.result in
    ap runs c.in_ok-push.ensures.items ∙ (runs_pushed c.loop-block.copy.items c.in_ok-try_copy.field-0 ∙ (ap (λ xss. xss ++ c.in_ok-try_copy.field-0.items ∷ []) c.loop-block.invariant
    ∙ (ap (λ xs. runs (take i c.args.blocks.now) ++ xs ∷ []) c.in_ok-try_copy.ensures ∙ sym (runs_more c.args.blocks.now i b c.loop-block-test.true c.block-item.is))))

pub returns : goal.returns
returns c = c.loop-block.invariant ∙ ap runs (take_all c.loop-block.block-index c.args.blocks.now (omega arith))

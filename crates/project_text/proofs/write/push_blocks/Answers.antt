use Rattle.std.proofs.Common.{refl, ap, ◌∙◌, ◌++◌, arith}
use Rattle.std.specs.Prelude.{flat_map}
use Rattle.std.proofs.lemmas.List.{take_all}
use Rattle.std.proofs.lemmas.Option.{slice_get_read}
use Rattle.dirty_area.specs.Blocks.{Block}
use Rattle.dirty_area.proofs.Joins.{said_joined}
use Rattle.project_text.specs.Pushed.{dirty_text}
use Rattle.text_out.proofs.Pushing.{said_more}
use Rattle.project_text.proofs.write.push_blocks.Goals as goal

pub loop-block-preserved : goal.loop-block-preserved
loop-block-preserved c =
    said_more (λ (b : Block). flat_map dirty_text b.items) c.args.blocks.now c.loop-block.block-index c.block-item.result
    c.args.out.now.items c.loop-block.out.items c.push_dirt.new.out.items (slice_get_read c.args.blocks.now _ c.loop-block.block-index c.block-item.result refl c.loop-block-test.true c.block-item.is)
    c.loop-block.invariant
    (c.in_ok-push_dirt.ensures ∙ ap (λ xs. c.loop-block.out.items ++ flat_map dirty_text xs) c.rects.ensures)

pub returns : goal.returns
returns c = c.loop-block.invariant ∙ ap (λ t. c.args.out.now.items ++ t)
    (ap (flat_map (λ (b : Block). flat_map dirty_text b.items)) (take_all c.loop-block.block-index c.args.blocks.now (omega arith))
    ∙ said_joined dirty_text c.args.blocks.now)

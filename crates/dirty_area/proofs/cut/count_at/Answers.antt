use Rattle.std.proofs.Common.{◌<◌, ap, ◌∙◌, length, arith}
use Rattle.std.proofs.lemmas.List.{take_all}
use Rattle.plane_terms.proofs.ListLemmas.{every_at}
use Rattle.dirty_area.proofs.Numbers.{count_more, counted}
use Rattle.dirty_area.proofs.cut.count_at.Goals as goal

pub bounds-blocks-place : goal.bounds-blocks-place
bounds-blocks-place c =
    every_at (λ k. k < length c.args.blocks.now) c.args.places.now c.loop-place.place-index 0 c.requires c.loop-place-test.true

pub loop-place-preserved : goal.loop-place-preserved
loop-place-preserved c =
    let short = every_at (λ k. k < length c.args.blocks.now) c.args.places.now c.loop-place.place-index 0 c.requires c.loop-place-test.true in
    count_more c.args.blocks.now c.args.places.now c.loop-place.place-index c.index-blocks-place.result c.loop-place.count c.len.result
    c.saturating_add-count.result c.loop-place-test.true short c.index-blocks-place.is c.len.ensures.value c.loop-place.invariant
    c.saturating_add-count.ensures

pub returns : goal.returns
returns c = c.loop-place.invariant ∙ ap (counted c.args.blocks.now) (take_all c.loop-place.place-index c.args.places.now (omega arith))

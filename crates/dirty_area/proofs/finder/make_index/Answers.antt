use Rattle.std.proofs.Common.{arith, sym, subst, true, ◌∙◌, take}
use Rattle.std.proofs.lemmas.List.{length-take-le, take_all}
use Rattle.dirty_area.specs.Blocks.{runs}
use Rattle.dirty_area.specs.Indexed.{IsIndexed, GainsSome}
use Rattle.dirty_area.proofs.Indexes.{block_pushed}
use Rattle.dirty_area.proofs.Joins.{runs_more, length_runs}
use Rattle.dirty_area.proofs.finder.make_index.Goals as goal

pub loop-place-preserved : goal.loop-place-preserved
loop-place-preserved c =
    let bs = c.args.blocks.now in
    let i = c.loop-place.place in
    let b = c.index-blocks-place.result in
    let before = runs (take i bs) in
    let gains = subst (λ xs. GainsSome i xs (λ s. true) c.loop-place.index c.put_each.new.index) c.rects.ensures c.in_ok-put_each.ensures in
    let at = subst (λ k. GainsSome k b.items (λ s. true) c.loop-place.index c.put_each.new.index)
    (sym (length_runs (take i bs) ∙ length-take-le i bs (omega (arith, c.loop-place-test.true)))) gains in
    subst (λ xss. IsIndexed xss c.put_each.new.index) (sym (runs_more bs i b c.loop-place-test.true c.index-blocks-place.is))
    (block_pushed before b.items c.loop-place.index c.put_each.new.index at c.loop-place.invariant)

pub returns : goal.returns
returns c = subst (λ bs. IsIndexed (runs bs) c.loop-place.index) (take_all c.loop-place.place c.args.blocks.now (omega arith)) c.loop-place.invariant

use Rattle.std.proofs.Common.{arith, subst, true}
use Rattle.std.proofs.lemmas.List.{take_all}
use Rattle.grid_index.specs.Near.{Gains}
use Rattle.dirty_area.specs.Indexed.{GainsSome}
use Rattle.dirty_area.proofs.Indexes.{gained_none, gained_next}
use Rattle.dirty_area.proofs.finder.put_each.Goals as goal

pub loop-r-init : goal.loop-r-init
loop-r-init c = gained_none c.args.place (λ s. true) c.args.index.now

pub loop-r-preserved : goal.loop-r-preserved
loop-r-preserved c = gained_next c.args.place c.args.rects.now (λ s. true) c.loop-r.r-index c.r-item.result c.args.index.now c.loop-r.index
    c.put.new.self c.loop-r-test.true c.r-item.is
    (λ e. subst (λ p. Gains c.loop-r.index c.put.new.self p) c.placed_of.ensures c.in_ok-put.ensures.ok) (λ e. absurd cc) c.loop-r.invariant

pub returns : goal.returns
returns c = subst (λ xs. GainsSome c.args.place xs (λ s. true) c.args.index.now c.loop-r.index)
    (take_all c.loop-r.r-index c.args.rects.now (omega arith)) c.loop-r.invariant

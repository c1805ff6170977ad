use Rattle.error_store.proofs.Cutting.{cutting_goes_on, rest_ascends}
use Rattle.error_store.proofs.cut.cut.Goals as goal

pub take_run-requires : goal.take_run-requires
take_run-requires c = rest_ascends c.args.entries.items c.loop-first.runs c.loop-first.rest.items c.pop_front.new.self.items
    c.in-Some.first c.requires c.loop-first.invariant c.in-Some.ensures.items

pub loop-first-preserved-in_ok-insert : goal.loop-first-preserved-in_ok-insert
loop-first-preserved-in_ok-insert c =
    let run = c.in_ok-run.ensures in
    let put = c.in_ok-insert.ensures in
    cutting_goes_on c.args.entries.items c.loop-first.runs c.insert.new.self c.loop-first.rest.items c.pop_front.new.self.items
    c.take_run.new.rest.items c.in-Some.first c.pair_of-pair.result c.in_ok-run.run' c.requires c.loop-first.invariant
    c.in-Some.ensures.items run.list run.own run.filled run.behind c.pair_of-pair.ensures put.entries put.ordered

pub loop-first-preserved : goal.loop-first-preserved
loop-first-preserved c =
    let run = c.in_ok-run.ensures in
    let put = c.in_ok-insert.ensures in
    cutting_goes_on c.args.entries.items c.loop-first.runs c.insert.new.self c.loop-first.rest.items c.pop_front.new.self.items
    c.take_run.new.rest.items c.in-Some.first c.pair_of-pair.result c.in_ok-run.run' c.requires c.loop-first.invariant
    c.in-Some.ensures.items run.list run.own run.filled run.behind c.pair_of-pair.ensures put.entries put.ordered

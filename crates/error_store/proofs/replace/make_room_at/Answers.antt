use Rattle.std.proofs.Common.{Some}
use Rattle.std.specs.BTreeMap.{get}
use Rattle.error_store.specs.Pairs.{pair_cmp}
use Rattle.error_store.proofs.Exchange.{runs_set, empty_run, empty_same, none_told, room_more, beside_set}
use Rattle.error_store.proofs.replace.make_room_at.Goals as goal

pub returns-clause-runs : goal.returns-clause-runs
returns-clause-runs c = runs_set c.args.pair (Some c.new.result) c.args.runs.now c.insert.new.self c.in_ok-insert.ensures.ordered
    c.in_ok-insert.ensures.updates.0 (λ w e. empty_run c.args.pair c.new.result w c.new.ensures.items e) c.requires.runs

pub returns-clause-same : goal.returns-clause-same
returns-clause-same c = empty_same c.args.pair c.new.result c.args.runs.now c.insert.new.self c.requires (returns-clause-runs c)
    c.new.ensures.items (none_told (get pair_cmp c.args.runs.now c.args.pair) c.contains_key.result c.contains_key.ensures c.if-contains_key.false)
    c.in_ok-insert.ensures.updates.0

pub returns-clause-kept : goal.returns-clause-kept
returns-clause-kept c = room_more c.args.pair c.new.result c.args.runs.now c.insert.new.self c.in_ok-insert.ensures.updates.0

pub returns-clause-beside : goal.returns-clause-beside
returns-clause-beside c = beside_set c.args.pair (Some c.new.result) c.args.runs.now c.insert.new.self c.in_ok-insert.ensures.updates.0

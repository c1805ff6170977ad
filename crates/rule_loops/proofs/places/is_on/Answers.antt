use Rattle.rule_loops.proofs.Spots.{on_is}
use Rattle.rule_loops.proofs.places.is_on.Goals as goal

pub returns-then-holds_point : goal.returns-then-holds_point
returns-then-holds_point c = on_is c.args.segment.now c.args.place c.holds.result c.env.ensures.valid.proper c.holds.ensures

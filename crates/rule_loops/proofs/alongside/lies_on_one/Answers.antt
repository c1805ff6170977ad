use Rattle.rule_loops.specs.Views.{IsHeldBy}
use Rattle.rule_loops.proofs.HeldBy.{some_here}
use Rattle.rule_loops.proofs.alongside.lies_on_one.Goals as goal

pub returns-then-lies_on : goal.returns-then-lies_on
returns-then-lies_on c =
    some_here (IsHeldBy c.args.segment.now) c.args.others.now c.loop-other.other-index c.other-item.result c.loop-other-test.true
    c.other-item.is c.if-lies_on.ensures

use Rattle.rule_loops.specs.Views.{IsHeldBy}
use Rattle.rule_loops.proofs.HeldBy.{some_in_block}
use Rattle.rule_loops.proofs.alongside.lies_on_shape.Goals as goal

pub returns-then-lies_on_block : goal.returns-then-lies_on_block
returns-then-lies_on_block c =
    some_in_block (IsHeldBy c.args.segment.now) c.loop-k.k c.args.blocks.now c.if-lies_on_block.ensures

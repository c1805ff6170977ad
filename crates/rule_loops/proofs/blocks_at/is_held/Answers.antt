use Rattle.std.proofs.Common.{sym, ◌∙◌}
use Rattle.rule_loops.specs.Blocks.{block_of}
use Rattle.rule_loops.proofs.Below.{none_holds}
use Rattle.rule_loops.proofs.blocks_at.is_held.Goals as goal

pub returns-else-holds_point : goal.returns-else-holds_point
returns-else-holds_point c =
    c.if-holds_point.false ∙ sym (none_holds c.frame.result c.args.place (block_of c.args.k c.args.blocks.now) c.frame.ensures
    (sym c.holds_point.ensures.value ∙ c.if-holds_point.false))

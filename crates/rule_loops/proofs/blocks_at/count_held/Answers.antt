use Rattle.std.proofs.Common.{sym, ◌∙◌, ap}
use Rattle.rule_loops.specs.Blocks.{block_of}
use Rattle.rule_loops.specs.Views.{up_to_three}
use Rattle.rule_loops.proofs.Below.{none_counted}
use Rattle.rule_loops.proofs.blocks_at.count_held.Goals as goal

pub returns-else-holds_point : goal.returns-else-holds_point
returns-else-holds_point c =
    sym (ap up_to_three (none_counted c.frame.result c.args.place (block_of c.args.k c.args.blocks.now) c.frame.ensures
    (sym c.holds_point.ensures.value ∙ c.if-holds_point.false)))

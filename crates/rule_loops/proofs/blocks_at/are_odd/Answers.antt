use Rattle.std.proofs.Common.{sym, ◌∙◌, ap}
use Rattle.plane_terms.specs.Lists.{is_odd}
use Rattle.rule_loops.specs.Blocks.{block_of}
use Rattle.rule_loops.proofs.Below.{none_below}
use Rattle.rule_loops.proofs.blocks_at.are_odd.Goals as goal

pub returns-else-reaches_below : goal.returns-else-reaches_below
returns-else-reaches_below c =
    c.if-reaches_below.false ∙ sym (ap is_odd (none_below c.frame.result c.args.place (block_of c.args.k c.args.blocks.now) c.frame.ensures
    (sym c.reaches_below.ensures ∙ c.if-reaches_below.false)))
